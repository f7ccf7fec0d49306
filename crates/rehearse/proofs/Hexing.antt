-- A text that is no hexadecimal.
use Rattle.std.proofs.Common.{◌≡◌, ℕ, ◌%◌, List, length, Result, Ok, Err, IsErr, IsOk, refl, inl, inr, arith}
use Rattle.std.proofs.lemmas.Bool.{cases_eq}
use Rattle.std.specs.List.{AllPass}
use Rattle.hex.specs.Hex.{decode_of, is_hex_digit}
use Rattle.hex.specs.declared.error.FromHexError.{FromHexError}
use Rattle.hex.proofs.HexLemmas.{decode_of-ok, decode_of-digits}

pub not_hex : (text : List ℕ) → (AllPass is_hex_digit text → ⊥) → IsErr (decode_of text)
not_hex text n = step (decode_of text) (λ bytes e. n (decode_of-ok text bytes e).1)
  where
    step : (r : Result (List ℕ) FromHexError) → ((bytes : List ℕ) → r ≡ Ok bytes → ⊥) → IsErr r
    step (Ok bytes) h = absurd (h bytes refl)
    step (Err e) h = refl

pub is_hex_text : (text : List ℕ) → (length text % 2 ≡ 1 → ⊥) → AllPass is_hex_digit text → IsOk (decode_of text)
is_hex_text text n all = let d = decode_of-digits text (even (length text) n) all in rw d.1 refl
  where
    even : (m : ℕ) → (m % 2 ≡ 1 → ⊥) → m % 2 ≡ 0
    even m h = elim (cases_eq (m % 2) 1) [
      | inl odd ↦ absurd (h odd)
      | inr other ↦ omega arith
    ]
