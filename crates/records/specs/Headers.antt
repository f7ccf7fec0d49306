-- A message's header: shared by its own record and by the one that holds it. Assumes nothing.
use Rattle.std.specs.Prelude.{◌≡◌, ℕ, List, length, take}
use Rattle.std.proofs.Common.{arith}
use Rattle.records.specs.Words.{Bytes}
use Rattle.records.specs.Fields.{nlmsghdr_bytes, nlmsghdr_of}
use Rattle.records.specs.WordsLemmas.{spelled, half_again, word_again, le2_take, le4_take}

pub header_again : (b : List ℕ) → length b ≡ 16 → Bytes b → nlmsghdr_bytes (nlmsghdr_of b) ≡ b
header_again b e h =
    let p0 = word_again b h 0 (omega arith) in
    let p1 = half_again b h 4 (omega arith) in
    let p2 = half_again b h 6 (omega arith) in
    let p3 = word_again b h 8 (omega arith) in
    let p4 = word_again b h 12 (omega arith) in
    let s = spelled b 16 e in
    cc

pub header_front : (b : List ℕ) → nlmsghdr_of (take 16 b) ≡ nlmsghdr_of b
header_front b =
    let p0 = le4_take 16 b 0 (omega arith) in
    let p1 = le2_take 16 b 4 (omega arith) in
    let p2 = le2_take 16 b 6 (omega arith) in
    let p3 = le4_take 16 b 8 (omega arith) in
    let p4 = le4_take 16 b 12 (omega arith) in
    cc
