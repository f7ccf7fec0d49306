-- Attributes in bytes: how long they are. Assumes nothing.
use Rattle.std.proofs.Common.{◌≡◌, ℕ, ◌+◌, ◌%◌, List, [], ◌∷◌, ◌++◌, length, replicate, refl, ap, ◌∙◌, arith}
use Rattle.std.proofs.lemmas.List.{length-append, length-replicate, append-nil}
use Rattle.records.specs.Words.{bytes2}
use Rattle.records.specs.Align.{padded, fill}
use Rattle.records.specs.Layouts.{Attribute}
use Rattle.requests.specs.Table.{nest}
use Rattle.requests.specs.Bytes.{attribute_bytes, row_bytes, attribute_of}

-- an attribute takes its length, rounded up to a multiple of 4
pub attribute_length : (a : Attribute) → length (attribute_bytes a) ≡ padded (4 + length a.payload)
attribute_length a =
    let n = length a.payload in
    let l = length-append a.payload (replicate (fill (4 + n)) 0) in
    let r = length-replicate {A = ℕ} (fill (4 + n)) 0 in
    omega arith

pub row_fours : (row : List Attribute) → length (row_bytes row) % 4 ≡ 0
row_fours [] = refl
row_fours (a ∷ row) = omega (arith, row_fours row, attribute_length a, length-append (attribute_bytes a) (row_bytes row))

-- so a row for a payload wants no padding
pub nested_bytes_lem : (kind : ℕ) (row : List Attribute) → attribute_bytes (attribute_of (nest kind row)) ≡ (bytes2 (4 + length (row_bytes row)) ++ bytes2 (0x8000 + kind)) ++ row_bytes row
nested_bytes_lem kind row =
    let n : ℕ = length (row_bytes row) in
    let z : fill (4 + n) ≡ 0 = omega (arith, row_fours row) in
    ap (λ (k : ℕ). (bytes2 (4 + n) ++ bytes2 (0x8000 + kind)) ++ (row_bytes row ++ replicate k 0)) z
    ∙ ap (λ (y : List ℕ). (bytes2 (4 + n) ++ bytes2 (0x8000 + kind)) ++ y) (append-nil (row_bytes row))
