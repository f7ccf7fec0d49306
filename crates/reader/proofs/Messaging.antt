-- One message at the front of a datagram: laid out, and read. Assumes nothing.
use Rattle.std.proofs.Common.{◌≡◌, ℕ, ◌+◌, ◌-◌, ◌<◌, ◌≤◌, ◌⊎◌, List, [], length, take, drop, sym, refl, ap, ◌∙◌, inl, inr, ⊎_elim, arith}
use Rattle.std.proofs.lemmas.List.{length-drop, length-take, length-take-le, nil_from_length, drop_all}
use Rattle.std.proofs.lemmas.Bool.Decides.{nat_tests}
use Rattle.reader.specs.declared.fault.MessageFault.{MessageFault}
use Rattle.records.specs.Words.{le2, le4}
use Rattle.records.specs.Align.{padded, fill}
use Rattle.records.specs.WordsLemmas.{le2_take, le4_take}
use Rattle.reader.specs.Walks.{Step, end, item, on_step, Reads, Stops}
use Rattle.records.specs.Layouts.{Message, MessageAt}
use Rattle.reader.specs.Datagrams.{message_step, messages}
use Rattle.reader.proofs.Walking.{reads, stops, reading_step}
use Rattle.reader.proofs.Pieces.{size, le2_front, le4_front, payload_at, rest_at, split}

same_item : {k k' f f' q q' o o' : ℕ} {p p' r r' : List ℕ} → k ≡ k' → f ≡ f' → q ≡ q' → o ≡ o' → p ≡ p' → r ≡ r' →
    ◌≡◌ {A = Step Message MessageFault} (item (record { kind = k; flags = f; seq = q; port = o; payload = p }) r)
    (item (record { kind = k'; flags = f'; seq = q'; port = o'; payload = p' }) r')
same_item a b c d e f = cc

-- a whole message at the front
at_front : (b : List ℕ) → 16 ≤ le4 b 0 → le4 b 0 ≤ length b →
    message_step b
    ≡ item (record { kind = le2 b 4; flags = le2 b 6; seq = le4 b 8; port = le4 b 12; payload = take (le4 b 0 - 16) (drop 16 b) }) (drop (padded (le4 b 0)) b)
at_front b h i = grind (arith, nat_tests)

within : (k n : ℕ) → (k ≤ n) ⊎ (n < k)
within k n = grind arith

record Front (b : List ℕ) (m : Message) (r : List ℕ) : Type 0 where
  small : 16 ≤ le4 b 0
  fits : le4 b 0 ≤ length b

front : (b : List ℕ) (m : Message) (r : List ℕ) → message_step b ≡ item m r → Front b m r
front b m r e = record { small = grind (arith, nat_tests); fits = grind (arith, nat_tests) }

pub shorter : (b : List ℕ) (m : Message) (r : List ℕ) → message_step b ≡ item m r → length r < length b
shorter b m r e =
    let f = front b m r e in
    let d = length-drop (padded (le4 b 0)) b in
    let s = at_front b f.small f.fits in
    let q : r ≡ drop (padded (le4 b 0)) b = cc in
    omega (arith, ap length q, f.small, f.fits)

at_end : (b : List ℕ) → message_step b ≡ end → b ≡ []
at_end b e = nil_from_length b (grind (arith, nat_tests))

-- what follows a message: after all of its padding, or nothing
after_padding : (b : List ℕ) (m : Message) (r : List ℕ) (o : MessageAt b m r) → le4 b 0 ≡ 16 + length m.payload → drop (padded (le4 b 0)) b ≡ r
after_padding b m r o n =
    let s = size b o.header m.payload o.padding r 16 o.bytes o.sixteen in
    ⊎_elim
    (λ (h : length o.padding ≡ fill (16 + length m.payload)).
    rest_at b o.header m.payload o.padding r 16 o.bytes o.sixteen (padded (le4 b 0)) (omega arith))
    (λ (h : r ≡ []). drop_all (padded (le4 b 0)) b (omega (arith, ap length h, o.few)) ∙ sym h)
    o.pads

there : (b : List ℕ) (m : Message) (r : List ℕ) → MessageAt b m r → message_step b ≡ item m r
there b m r o =
    let h = o.header in
    let z = o.padding in
    let n : le4 b 0 ≡ 16 + length m.payload = le4_front b h m.payload z r 16 o.bytes o.sixteen 0 (omega arith) ∙ o.len in
    let s = size b h m.payload z r 16 o.bytes o.sixteen in
    at_front b (omega arith) (omega arith)
    ∙ same_item (le2_front b h m.payload z r 16 o.bytes o.sixteen 4 (omega arith) ∙ o.kind)
    (le2_front b h m.payload z r 16 o.bytes o.sixteen 6 (omega arith) ∙ o.flags)
    (le4_front b h m.payload z r 16 o.bytes o.sixteen 8 (omega arith) ∙ o.seq)
    (le4_front b h m.payload z r 16 o.bytes o.sixteen 12 (omega arith) ∙ o.port)
    (payload_at b h m.payload z r 16 o.bytes o.sixteen (le4 b 0) n)
    (after_padding b m r o n)

-- padding that is short, with nothing after it
short_padding : (b r : List ℕ) (n k : ℕ) → n ≤ length b → n ≤ k → drop k b ≡ r →
    (length (take (k - n) (drop n b)) ≤ k - n) × ((length (take (k - n) (drop n b)) ≡ k - n) ⊎ (r ≡ []))
short_padding b r n k h i e =
    let d = length-drop n b in
    let t = length-take (k - n) (drop n b) in (
      omega arith,
      ⊎_elim
          (λ (p : k ≤ length b). inl (omega arith))
          (λ (p : length b < k). inr (sym e ∙ drop_all k b (omega arith)))
          (within k (length b)),
    )

back : (b : List ℕ) (m : Message) (r : List ℕ) → message_step b ≡ item m r → MessageAt b m r
back b m r e =
    let f = front b m r e in
    let n : ℕ = le4 b 0 in
    let s = at_front b f.small f.fits in
    let k : le2 b 4 ≡ m.kind = cc in
    let g : le2 b 6 ≡ m.flags = cc in
    let g8 : le4 b 8 ≡ m.seq = cc in
    let g12 : le4 b 12 ≡ m.port = cc in
    let p : take (n - 16) (drop 16 b) ≡ m.payload = cc in
    let q : drop (padded n) b ≡ r = cc in
    let l = length-drop 16 b in
    let lp : length m.payload ≡ n - 16 = ap length (sym p) ∙ length-take-le (n - 16) (drop 16 b) (omega (arith, f.small, f.fits)) in
    let w = split b 16 n (padded n) f.small (omega arith) in
    let x = short_padding b r n (padded n) f.fits (omega arith) q in
    let y : fill n ≡ fill (16 + length m.payload) = ap fill (omega (arith, f.small)) in
    record {
      header = take 16 b;
      padding = take (padded n - n) (drop n b);
      bytes = cc;
      sixteen = length-take-le 16 b (omega (arith, f.small, f.fits));
      len = le4_take 16 b 0 (omega arith) ∙ omega (arith, f.small);
      kind = le2_take 16 b 4 (omega arith) ∙ k;
      flags = le2_take 16 b 6 (omega arith) ∙ g;
      seq = le4_take 16 b 8 (omega arith) ∙ g8;
      port = le4_take 16 b 12 (omega arith) ∙ g12;
      few = omega (arith, x.0, y);
      pads = ⊎_elim (λ h. inl (h ∙ y)) (λ h. inr h) x.1;
    }

pub messages_read : Reads message_step MessageAt
messages_read = reads message_step refl shorter MessageAt at_end there back

-- a datagram is its first step, and then the rest
pub messages_step : (b : List ℕ) → messages b ≡ on_step messages (message_step b)
messages_step = reading_step message_step refl shorter

pub messages_stop : Stops message_step MessageAt
messages_stop = stops message_step refl shorter MessageAt at_end there back
