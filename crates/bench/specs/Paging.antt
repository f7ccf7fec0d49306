-- What the bench host replies is datagrams of whole messages. Assumes nothing.
use Rattle.std.specs.Prelude.{◌≡◌, ℕ, ◌+◌, ◌*◌, ◌%◌, ◌^◌, ◌<◌, ◌≤◌, Bool, true, not, ◌&&◌, leb, List, [], ◌∷◌, ◌++◌, map, length, drop, ℤ, Some, None, fold, Option, nat_le, refl}
use Rattle.std.proofs.Common.{sym, ap, subst, inl, inr, append_assoc, arith}
use Rattle.std.specs.List.{AllByRecursion}
use Rattle.std.proofs.lemmas.List.{append-nil, length-append}
use Rattle.std.proofs.lemmas.Bool.{le-leb, leb-true, eq-eqb, cond_both, and_parts, and_from, or_left, or_right, not-true, both_ways}
use Rattle.records.specs.Words.{bytes2, bytes4}
use Rattle.records.specs.Fields.{tcmsg_bytes}
use Rattle.records.specs.Layouts.{none, more, Message, MessageAt, Messages}
use Rattle.records.specs.WordsLemmas.{half_back, word_back}
use Rattle.requests.specs.Asks.{Key}
use Rattle.requests.specs.Table.{filter_header}
use Rattle.requests.specs.Bytes.{message_bytes, row_bytes}
use Rattle.requests.specs.FilterMessages.{filter_row, filter_fault, filter_bytes}
use Rattle.requests.specs.declared.fault.ArgumentFault.{ArgumentFault}
use Rattle.requests.proofs.Rows.{row_fours}
use Rattle.requests.proofs.Messages.{message_length}
use Rattle.requests.proofs.Telling.{told_length, told_texts, options_short}
use Rattle.reader.specs.Walks.{Stop, clean, broken, whole, Reading}
use Rattle.reader.specs.Datagrams.{messages}
use Rattle.reader.specs.Cuts.{Cut, none as no_cut, more as more_cut}
use Rattle.reader.specs.declared.fault.MessageFault.{MessageFault}
use Rattle.reader.proofs.Messaging.{messages_read}
use Rattle.queue.specs.Cuts.{bulk, joined}
use Rattle.hosts.specs.Meaning.{Filter, In, Apart, keys, Datagram}
use Rattle.hosts.specs.Rules.{same_key}
use Rattle.filters.specs.Fitting.{Stands, is_filter, filter_with, passes, may_be_named}
use Rattle.filters.specs.Keys.{taken, distinct}
use Rattle.bench.specs.Replies.{told, told_bytes, answer, answer_bytes, done, done_bytes, pages}
use Rattle.bench.specs.Wholeness.{some, is_datagram, all_datagrams}

-- a message whose numbers fit their fields, and that wants no padding
record Laid (m : Message) : Type 0 where
  fours : length m.payload % 4 ≡ 0
  len : 16 + length m.payload < 2 ^ 32
  kind : m.kind < 2 ^ 16
  flags : m.flags < 2 ^ 16
  seq : m.seq < 2 ^ 32
  port : m.port < 2 ^ 32

laid_at : (m : Message) (r : List ℕ) → Laid m → MessageAt (message_bytes m ++ r) m r
laid_at m r l =
    let n : ℕ = 16 + length m.payload in
    record {
      header = bytes4 n ++ (bytes2 m.kind ++ (bytes2 m.flags ++ (bytes4 m.seq ++ bytes4 m.port)));
      padding = [];
      bytes = refl;
      sixteen = refl;
      len = word_back n l.len;
      kind = half_back m.kind l.kind;
      flags = half_back m.flags l.flags;
      seq = word_back m.seq l.seq;
      port = word_back m.port l.port;
      few = omega arith;
      pads = inl (omega (arith, l.fours));
    }

-- these bytes are these messages, whatever messages follow
record Begins (d : List ℕ) (ms : List Message) : Type 0 where
  with : (r : List ℕ) (ns : List Message) → Messages r ns → Messages (d ++ r) (ms ++ ns)

begins_laid : (m : Message) → Laid m → Begins (message_bytes m) (m ∷ [])
begins_laid m l = record { with = λ r ns c. more (laid_at m r l) c }

begins_both : (d e : List ℕ) (ms ns : List Message) → Begins d ms → Begins e ns → Begins (d ++ e) (ms ++ ns)
begins_both d e ms ns p q = record {
  with = λ r ks c.
      subst (λ (b : List ℕ). Messages b ((ms ++ ns) ++ ks)) (sym (append_assoc d e r))
      (subst (Messages (d ++ (e ++ r))) (sym (append_assoc ms ns ks)) (p.with (e ++ r) (ns ++ ks) (q.with r ks c)));
}

begins_whole : (d : List ℕ) (ms : List Message) → Begins d ms → Messages d ms
begins_whole d ms p = subst (λ (b : List ℕ). Messages b ms) (append-nil d) (subst (Messages (d ++ [])) (append-nil ms) (p.with [] [] none))

-- datagrams that hold these messages in turn, behind the last of which more can be put
data Pages : List (List ℕ) → List Message → Type 0 where
  blank : Pages [] []
  page : {d : List ℕ} {ds : List (List ℕ)} {m : Message} {ms ns : List Message} → Begins d (m ∷ ms) → length d ≤ 4096 → Pages ds ns → Pages (d ∷ ds) ((m ∷ ms) ++ ns)

one_page : (d : List ℕ) (m : Message) (ms : List Message) → Begins d (m ∷ ms) → length d ≤ 4096 → Pages (d ∷ []) (m ∷ ms)
one_page d m ms p h = subst (Pages (d ∷ [])) (append-nil (m ∷ ms)) (page p h blank)

last_page : (d b : List ℕ) (k m : Message) (ms : List Message) → Begins d (k ∷ ms) → length d ≤ 4096 → Begins b (m ∷ []) → length b ≤ 4096 →
    Pages (joined (d ∷ []) b) ((k ∷ ms) ++ m ∷ [])
last_page d b k m ms p h q l =
    cond_both (nat_le (length d + length b) 4096) ((d ++ b) ∷ []) (d ∷ b ∷ []) (λ ws. Pages ws ((k ∷ ms) ++ m ∷ []))
    (λ e. one_page (d ++ b) k (ms ++ m ∷ []) (begins_both d b (k ∷ ms) (m ∷ []) p q) (omega (arith, length-append d b, leb-true _ _ e)))
    (λ e. page p h (page q l blank))

joined_pages : (ws : List (List ℕ)) (ms : List Message) (b : List ℕ) (m : Message) → Pages ws ms → Begins b (m ∷ []) → length b ≤ 4096 →
    Pages (joined ws b) (ms ++ m ∷ [])
joined_pages ws all b m blank q l = page q l blank
joined_pages ws all b m (page {d} {m = k} {ms} p h blank) q l =
    subst (λ (x : List Message). Pages (joined (d ∷ []) b) (x ++ m ∷ [])) (sym (append-nil (k ∷ ms))) (last_page d b k m ms p h q l)
joined_pages ws all b m (page {d} {m = k} {ms} p h (page {d = e} {ds} {m = k'} {ms = ms'} {ns} p' h' c)) q l =
    subst (Pages (d ∷ joined (e ∷ ds) b)) (sym (append_assoc (k ∷ ms) ((k' ∷ ms') ++ ns) (m ∷ [])))
    (page p h (joined_pages (e ∷ ds) ((k' ∷ ms') ++ ns) b m (page p' h' c) q l))

pages_cut : (ws : List (List ℕ)) (ms : List Message) → Pages ws ms → Cut ws ms
pages_cut ws all blank = no_cut
pages_cut ws all (page {d} {ds} {m} {ms} {ns} p h c) = more_cut (begins_whole d (m ∷ ms) p) h (pages_cut ds ns c)

cut_append : (ws vs : List (List ℕ)) (ms ns : List Message) → Cut ws ms → Cut vs ns → Cut (ws ++ vs) (ms ++ ns)
cut_append ws vs all ns no_cut k = k
cut_append ws vs all ns (more_cut {d} {ds} {m} {ms} {ns = ks} p h c) k =
    subst (Cut (d ∷ (ds ++ vs))) (sym (append_assoc (m ∷ ms) ks ns)) (more_cut p h (cut_append ds vs ks ns c k))

cut_one : (m : Message) → Laid m → length (message_bytes m) ≤ 4096 → Cut (message_bytes m ∷ []) (m ∷ [])
cut_one m l h = more_cut (begins_whole (message_bytes m) (m ∷ []) (begins_laid m l)) h no_cut

-- an answer
pub answer_long : (q : List ℕ) (s : ℤ) → length (answer_bytes q s) ≡ 36
unfolding answer_bytes
answer_long q s = refl

answer_laid : (q : List ℕ) (s : ℤ) → Laid (answer q s)
answer_laid q s = record { fours = refl; len = omega arith; kind = omega arith; flags = omega arith; seq = omega arith; port = omega arith }

pub cut_answer : (q : List ℕ) (s : ℤ) → Cut (answer_bytes q s ∷ []) (answer q s ∷ [])
unfolding answer_bytes
cut_answer q s = cut_one (answer q s) (answer_laid q s) (omega (arith, answer_long q s))

-- a DONE
pub done_long : length done_bytes ≡ 20
unfolding done_bytes
done_long = refl

cut_done : Cut (done_bytes ∷ []) (done ∷ [])
unfolding done_bytes
cut_done = cut_one done (record { fours = refl; len = omega arith; kind = omega arith; flags = omega arith; seq = omega arith; port = omega arith }) (omega (arith, done_long))

-- a filter
passes_none : (f : Option ArgumentFault) → passes f ≡ true → f ≡ None
passes_none None e = refl
passes_none (Some f) e = let z : ◌≡◌ {A = ℕ} 0 1 = cc in absurd (omega arith)

pub filter_parts : (key : Key) (kind : List ℕ) (name : Option (List ℕ)) → is_filter (filter_with key kind name) ≡ true → (filter_fault key kind name ≡ None) × (length kind ≤ 15)
filter_parts key kind name e =
    let some : Bool = leb 1 (length kind) in
    let short : Bool = leb (length kind) 15 in
    let numbers : Bool = nat_le 1 key.priority && leb 1 key.handle in
    let named : Bool = may_be_named kind name in
    let p = and_parts (passes (filter_fault key kind name)) (numbers && ((some && short) && named)) e in
    let q = and_parts (some && short) named (and_parts numbers ((some && short) && named) p.1).1 in
    (passes_none (filter_fault key kind name) p.0, leb-true (length kind) 15 (and_parts some short q.0).1)

pub told_long : (flags : ℕ) (f : Filter) → Stands f → (44 ≤ length (told_bytes flags f)) × (length (told_bytes flags f) ≤ 324)
told_long flags f s =
    let p = filter_parts f.key f.kind f.name s.0 in
    let t = told_texts f.key f.kind f.name p.0 in
    let o = options_short f.name t.1 in
    let l = told_length flags f.key f.kind f.name in
    (omega arith, omega arith)

told_laid : (flags : ℕ) (f : Filter) → flags < 2 ^ 16 → Stands f → Laid (told flags f)
unfolding filter_bytes
told_laid flags f h s =
    let row = row_bytes (filter_row f.kind f.name) in
    let a = length-append (tcmsg_bytes (filter_header f.key)) row in
    let g = row_fours (filter_row f.kind f.name) in
    let t = (told_long flags f s).1 in
    record { fours = omega arith; len = omega (arith, message_length (told flags f)); kind = omega arith; flags = h; seq = omega arith; port = omega arith }

begins_told : (flags : ℕ) (f : Filter) → flags < 2 ^ 16 → Stands f → Begins (told_bytes flags f) (told flags f ∷ [])
unfolding filter_bytes
begins_told flags f h s = begins_laid (told flags f) (told_laid flags f h s)

pub cut_echo : (flags : ℕ) (f : Filter) (q : List ℕ) (s : ℤ) → flags < 2 ^ 16 → Stands f → Cut (told_bytes flags f ∷ answer_bytes q s ∷ []) (told flags f ∷ answer q s ∷ [])
cut_echo flags f q s h t =
    more_cut (begins_whole (told_bytes flags f) (told flags f ∷ []) (begins_told flags f h t)) (omega (arith, (told_long flags f t).1)) (cut_answer q s)

-- a listing
told_pages : (fs : List Filter) (ws : List (List ℕ)) (ms : List Message) → AllByRecursion Stands fs → Pages ws ms →
    Pages (fold joined ws (map (told_bytes 2) fs)) (ms ++ map (told 2) fs)
told_pages [] ws ms a c = subst (Pages ws) (sym (append-nil ms)) c
told_pages (f ∷ fs) ws ms a c =
    subst (Pages (fold joined (joined ws (told_bytes 2 f)) (map (told_bytes 2) fs))) (append_assoc ms (told 2 f ∷ []) (map (told 2) fs))
    (told_pages fs (joined ws (told_bytes 2 f)) (ms ++ told 2 f ∷ []) a.1
    (joined_pages ws ms (told_bytes 2 f) (told 2 f) c (begins_told 2 f (omega arith) a.0) (omega (arith, (told_long 2 f a.0).1))))

pub cut_listing : (fs : List Filter) → AllByRecursion Stands fs → Cut (pages (map (told_bytes 2) fs) ++ (done_bytes ∷ [])) (map (told 2) fs ++ (done ∷ []))
cut_listing fs a =
    cut_append (pages (map (told_bytes 2) fs)) (done_bytes ∷ []) (map (told 2) fs) (done ∷ []) (pages_cut _ _ (told_pages fs [] [] a blank)) cut_done

-- how many bytes
pub joined_bulk : (ws : List (List ℕ)) (m : List ℕ) → bulk (joined ws m) ≡ bulk ws + length m
joined_bulk [] m = omega arith
joined_bulk (d ∷ []) m =
    cond_both (nat_le (length d + length m) 4096) ((d ++ m) ∷ []) (d ∷ m ∷ []) (λ ws. bulk ws ≡ bulk (d ∷ []) + length m)
    (λ e. omega (arith, length-append d m)) (λ e. omega arith)
joined_bulk (d ∷ e ∷ ds) m = let i = joined_bulk (e ∷ ds) m in omega arith

told_bulk : (fs : List Filter) (ws : List (List ℕ)) → AllByRecursion Stands fs → bulk (fold joined ws (map (told_bytes 2) fs)) ≤ bulk ws + 324 * length fs
told_bulk [] ws a = omega arith
told_bulk (f ∷ fs) ws a =
    let i = told_bulk fs (joined ws (told_bytes 2 f)) a.1 in
    let j = joined_bulk ws (told_bytes 2 f) in
    let t = (told_long 2 f a.0).1 in
    omega arith

pub listing_bulk : (fs : List Filter) → AllByRecursion Stands fs → length fs ≤ 32 → bulk (pages (map (told_bytes 2) fs)) + 20 ≤ 16384
listing_bulk fs a h = omega (arith, told_bulk fs [] a)

-- the test of a datagram
pub cut_whole : (ds : List (List ℕ)) (ms : List Message) → Cut ds ms → all_datagrams ds ≡ true
cut_whole ds all no_cut = refl
cut_whole ds all (more_cut {d} {ds = es} {m} {ms} {ns} l h c) =
    let e : messages d ≡ whole (m ∷ ms) = (messages_read d (m ∷ ms)).0 l in
    and_from (is_datagram d) (all_datagrams es)
    (and_from _ _ (ap (λ (r : Reading Message MessageFault). some r.found r.stop) e) (le-leb _ _ h))
    (cut_whole es ns c)

pub whole_append : (a b : List (List ℕ)) → all_datagrams a ≡ true → all_datagrams b ≡ true → all_datagrams (a ++ b) ≡ true
whole_append [] b p q = q
whole_append (d ∷ a) b p q = let r = and_parts (is_datagram d) (all_datagrams a) p in and_from _ _ r.0 (whole_append a b r.1 q)

pub whole_drop : (ws : List (List ℕ)) → all_datagrams ws ≡ true → all_datagrams (drop 1 ws) ≡ true
whole_drop [] p = refl
whole_drop (d ∷ ws) p = (and_parts (is_datagram d) (all_datagrams ws) p).1

datagram_from : (d : List ℕ) (found : List Message) (stop : Stop MessageFault) → messages d ≡ record { found = found; stop = stop } → some found stop ≡ true → length d ≤ 4096 → Datagram d
datagram_from d [] stop e t h = let z : ◌≡◌ {A = ℕ} 0 1 = cc in absurd (omega arith)
datagram_from d (m ∷ ms) clean e t h = record { first = m; others = ms; stands = (messages_read d (m ∷ ms)).1 e; short = h }
datagram_from d (m ∷ ms) (broken f) e t h = let z : ◌≡◌ {A = ℕ} 0 1 = cc in absurd (omega arith)

pub whole_all : (ws : List (List ℕ)) → all_datagrams ws ≡ true → AllByRecursion Datagram ws
whole_all [] p = tt
whole_all (d ∷ ws) p =
    let r = and_parts (is_datagram d) (all_datagrams ws) p in
    let q = and_parts (some (messages d).found (messages d).stop) (nat_le (length d) 4096) r.0 in
    (datagram_from d (messages d).found (messages d).stop refl q.0 (leb-true _ _ q.1), whole_all ws r.1)

-- keys that are apart
same_key_lem : (k l : Key) → k ≡ l → same_key k l ≡ true
same_key_lem k l e =
    and_from _ _ (eq-eqb _ _ (ap (λ (x : Key). x.interface) e))
    (and_from _ _ (eq-eqb _ _ (ap (λ (x : Key). x.parent) e))
    (and_from _ _ (eq-eqb _ _ (ap (λ (x : Key). x.priority) e)) (eq-eqb _ _ (ap (λ (x : Key). x.handle) e))))

pub in_taken : (k : Key) (fs : List Filter) → In k (keys fs) → taken k fs ≡ true
in_taken k [] i = absurd i
in_taken k (f ∷ fs) (inl e) = or_left _ _ (same_key_lem k f.key e)
in_taken k (f ∷ fs) (inr i) = or_right _ _ (in_taken k fs i)

pub apart : (fs : List Filter) → distinct fs ≡ true → Apart (keys fs)
apart [] e = tt
apart (f ∷ fs) e =
    let p = and_parts (not (taken f.key fs)) (distinct fs) e in
    (λ i. both_ways _ (not-true _ p.0) (in_taken f.key fs i), apart fs p.1)
