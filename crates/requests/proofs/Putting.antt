-- A piece behind what is written already. Assumes nothing.
use Rattle.std.proofs.Common.{◌≡◌, ℕ, ◌+◌, List, ◌++◌, length, take, drop, sym, ap, ◌∙◌, subst, append_assoc, arith}
use Rattle.std.proofs.lemmas.List.{take_at, drop_at, drop-drop, length-append}
use Rattle.requests.specs.Writing.{Begun, Puts}

pub puts_piece : (before after piece : List ℕ) (at n : ℕ) → length piece ≡ n → after ≡ take at before ++ (piece ++ drop (at + n) before) → Puts before after at (at + n) piece
puts_piece before after piece at n l q w e o =
    let k = o.len in
    let t : take at before ≡ w = ap (take at) o.is ∙ take_at w (drop at e) at k in
    let d : drop at before ≡ drop at e = ap (drop at) o.is ∙ drop_at w (drop at e) at k in
    let x = drop-drop n at e in
    let y = drop-drop n at before in
    let z : drop (at + n) before ≡ drop (at + n) e = cc in
    let s = append_assoc w piece (drop (at + n) e) in
    record { len = length-append w piece ∙ omega arith; is = cc }

-- pieces one behind the other are one piece
pub puts_both : (a b c p q : List ℕ) (i j k : ℕ) → Puts a b i j p → Puts b c j k q → Puts a c i k (p ++ q)
puts_both a b c p q i j k f g w e o = subst (λ (z : List ℕ). Begun c z k e) (append_assoc w p q) (g (w ++ p) e (f w e o))

pub puts_same : (a b p q : List ℕ) (i j : ℕ) → p ≡ q → Puts a b i j p → Puts a b i j q
puts_same a b p q i j e f = subst (λ (z : List ℕ). Puts a b i j z) e f

-- what the buffer holds once the writer is gone
pub puts_ends : (a b end p : List ℕ) (i j n : ℕ) → end ≡ b → n ≡ j → Puts a b i j p → Puts a end i n p
puts_ends a b end p i j n e l f = subst (λ (z : List ℕ). Puts a z i n p) (sym e) (subst (λ (k : ℕ). Puts a b i k p) (sym l) f)
