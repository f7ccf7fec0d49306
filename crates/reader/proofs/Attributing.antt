-- One attribute at the front of a row: laid out, and read. Assumes nothing.
use Rattle.std.proofs.Common.{◌≡◌, ℕ, ◌+◌, ◌-◌, ◌<◌, ◌≤◌, List, [], length, take, drop, sym, refl, ap, ◌∙◌, arith}
use Rattle.std.proofs.lemmas.List.{length-drop, length-take-le, nil_from_length}
use Rattle.std.proofs.lemmas.Bool.Decides.{nat_tests}
use Rattle.reader.specs.declared.fault.AttributeFault.{AttributeFault}
use Rattle.records.specs.Words.{le2}
use Rattle.records.specs.Align.{padded}
use Rattle.records.specs.WordsLemmas.{le2_take}
use Rattle.reader.specs.Walks.{Step, end, item, on_step, Reads, Stops}
use Rattle.records.specs.Layouts.{Attribute, AttributeAt}
use Rattle.reader.specs.Rows.{attribute_step, attributes}
use Rattle.reader.proofs.Walking.{reads, stops, reading_step}
use Rattle.reader.proofs.Pieces.{size, le2_front, payload_at, rest_at, split}

same_item : {k k' : ℕ} {p p' r r' : List ℕ} → k ≡ k' → p ≡ p' → r ≡ r' →
    ◌≡◌ {A = Step Attribute AttributeFault} (item (record { kind = k; payload = p }) r) (item (record { kind = k'; payload = p' }) r')
same_item e f g = cc

-- a whole attribute at the front
at_front : (b : List ℕ) → 4 ≤ length b → 4 ≤ le2 b 0 → padded (le2 b 0) ≤ length b →
    attribute_step b ≡ item (record { kind = le2 b 2; payload = take (le2 b 0 - 4) (drop 4 b) }) (drop (padded (le2 b 0)) b)
at_front b g h i = grind (arith, nat_tests)

record Front (b : List ℕ) (a : Attribute) (r : List ℕ) : Type 0 where
  four : 4 ≤ length b
  small : 4 ≤ le2 b 0
  fits : padded (le2 b 0) ≤ length b

front : (b : List ℕ) (a : Attribute) (r : List ℕ) → attribute_step b ≡ item a r → Front b a r
front b a r e = record { four = grind (arith, nat_tests); small = grind (arith, nat_tests); fits = grind (arith, nat_tests) }

pub shorter : (b : List ℕ) (a : Attribute) (r : List ℕ) → attribute_step b ≡ item a r → length r < length b
shorter b a r e =
    let f = front b a r e in
    let d = length-drop (padded (le2 b 0)) b in
    let s = at_front b f.four f.small f.fits in
    let q : r ≡ drop (padded (le2 b 0)) b = cc in
    omega (arith, ap length q)

at_end : (b : List ℕ) → attribute_step b ≡ end → b ≡ []
at_end b e = nil_from_length b (grind (arith, nat_tests))

there : (b : List ℕ) (a : Attribute) (r : List ℕ) → AttributeAt b a r → attribute_step b ≡ item a r
there b a r o =
    let h = o.header in
    let z = o.padding in
    let n : le2 b 0 ≡ 4 + length a.payload = le2_front b h a.payload z r 4 o.bytes o.four 0 (omega arith) ∙ o.len in
    let s = size b h a.payload z r 4 o.bytes o.four in
    at_front b (omega arith) (omega arith) (omega (arith, o.pads))
    ∙ same_item (le2_front b h a.payload z r 4 o.bytes o.four 2 (omega arith) ∙ o.kind)
    (payload_at b h a.payload z r 4 o.bytes o.four (le2 b 0) n)
    (rest_at b h a.payload z r 4 o.bytes o.four (padded (le2 b 0)) (omega (arith, o.pads)))

back : (b : List ℕ) (a : Attribute) (r : List ℕ) → attribute_step b ≡ item a r → AttributeAt b a r
back b a r e =
    let f = front b a r e in
    let n : ℕ = le2 b 0 in
    let s = at_front b f.four f.small f.fits in
    let k : le2 b 2 ≡ a.kind = cc in
    let p : take (n - 4) (drop 4 b) ≡ a.payload = cc in
    let q : drop (padded n) b ≡ r = cc in
    let l4 = length-drop 4 b in
    let ln = length-drop n b in
    let lp : length a.payload ≡ n - 4 = ap length (sym p) ∙ length-take-le (n - 4) (drop 4 b) (omega (arith, f.small, f.fits)) in
    let lz : length (take (padded n - n) (drop n b)) ≡ padded n - n = length-take-le (padded n - n) (drop n b) (omega (arith, f.small, f.fits)) in
    let w = split b 4 n (padded n) f.small (omega arith) in
    record {
      header = take 4 b;
      padding = take (padded n - n) (drop n b);
      bytes = cc;
      four = length-take-le 4 b f.four;
      len = le2_take 4 b 0 (omega arith) ∙ omega (arith, f.small);
      kind = le2_take 4 b 2 (omega arith) ∙ k;
      pads = lz ∙ omega (arith, f.small);
    }

pub rows_read : Reads attribute_step AttributeAt
rows_read = reads attribute_step refl shorter AttributeAt at_end there back

-- a row is its first step, and then the rest
pub attributes_step : (b : List ℕ) → attributes b ≡ on_step attributes (attribute_step b)
attributes_step = reading_step attribute_step refl shorter

pub rows_stop : Stops attribute_step AttributeAt
rows_stop = stops attribute_step refl shorter AttributeAt at_end there back
