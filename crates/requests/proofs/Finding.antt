-- Which request bytes can be. Assumes nothing.
use Rattle.std.proofs.Common.{◌≡◌, ℕ, ◌*◌, ◌/◌, ◌%◌, bit_and, ◌<◌, ◌≤◌, Bool, true, false, Decides, List, [], ◌∷◌, length, take, drop, ◌==◌, Some, None, Ok, Err, Option, Result, sym, refl, ap, ◌∙◌, subst, arith, MatchOption, IfSome}
use Rattle.std.proofs.lemmas.List.{take_at}
use Rattle.std.proofs.lemmas.Nat.Bits.{and_high}
use Rattle.std.specs.Bool.{then_some}
use Rattle.std.specs.List.{find}
use Rattle.std.specs.Option.{option_map, unwrap_or}
use Rattle.std.specs.Result.{result_ok}
use Rattle.std.proofs.lemmas.Bool.Decides.{nat_tests}
use Rattle.requests.specs.declared.fault.ArgumentFault.{ArgumentFault}
use Rattle.records.specs.Words.{le2}
use Rattle.requests.specs.declared.request.Request.{Request}
use Rattle.requests.specs.declared.mode.XdpMode.TheVariants.{Default, Skb, Driver, Hardware}
use Rattle.requests.specs.Modes.{mode_flags}
use Rattle.requests.specs.Asks.{Ask, asks, set_xdp, add_clsact, attach, replace, remove, list}
use Rattle.requests.specs.Table.{type_of, flags_of, filter_header}
use Rattle.requests.specs.Bytes.{request_bytes}
use Rattle.requests.specs.Builders.{tc_bytes}
use Rattle.requests.specs.Refusals.{argument_fault, room_fault, unless, written, buffer}
use Rattle.requests.specs.Back.{Fits, PickedOut, Writes}
use Rattle.requests.specs.Places.{Short, placed_xdp, placed, mode_of}
use Rattle.requests.proofs.Standing.{name_short, program_name, class_short, request_length_lem, answered}
use Rattle.requests.proofs.Placing.{type_is, flags_is, program_descriptor, not_short, xdp_back, placed_back}

type_of_lem : (x : Ask) (b : List ℕ) → Writes x b → le2 b 4 ≡ type_of x
type_of_lem x b w = ap (λ (z : List ℕ). le2 z 4) w.bytes ∙ type_is x

flags_of_lem : (x : Ask) (b : List ℕ) → Writes x b → le2 b 6 ≡ flags_of x
flags_of_lem x b w = ap (λ (z : List ℕ). le2 z 6) w.bytes ∙ flags_is x

-- bytes of another type are none of the six
pub no_type : (kind : ℕ) → (kind ≡ 19 → ⊥) → (kind ≡ 36 → ⊥) → (kind ≡ 44 → ⊥) → (kind ≡ 45 → ⊥) → (kind ≡ 46 → ⊥) →
    (x : Ask) (b : List ℕ) → Writes x b → kind ≡ le2 b 4 → ⊥
no_type kind a c d e f x b w q = at x (q ∙ type_of_lem x b w)
  where
    at : (y : Ask) → kind ≡ type_of y → ⊥
    at (set_xdp i g h m) p = a p
    at (add_clsact i) p = c p
    at (attach k g) p = d p
    at (replace k g) p = d p
    at (remove k) p = e p
    at (list i g) p = f p

-- nor are bytes that are too short for their program
pub no_program : (b : List ℕ) → Short b → (x : Ask) → Writes x b → le2 b 4 ≡ 44 → ⊥
unfolding argument_fault request_bytes tc_bytes
no_program b s (set_xdp i d e m) w q = omega (arith, type_of_lem (set_xdp i d e m) b w)
no_program b s (add_clsact i) w q = omega (arith, type_of_lem (add_clsact i) b w)
no_program b s (attach k p) w q =
    not_short 0x060D (filter_header k) p.descriptor p.name (omega (arith, program_descriptor k p w.sound)) (name_short p.name (program_name k p w.sound)) p.class
    (subst Short w.bytes s)
no_program b s (replace k p) w q =
    not_short 0x000D (filter_header k) p.descriptor p.name (omega (arith, program_descriptor k p w.sound)) (name_short p.name (program_name k p w.sound)) p.class
    (subst Short w.bytes s)
no_program b s (remove k) w q = omega (arith, type_of_lem (remove k) b w)
no_program b s (list i p) w q = omega (arith, type_of_lem (list i p) b w)

-- what is picked out is the only request that it can be
abbrev pub Picked : List ℕ → Option Request → Type 0
Picked b r = MatchOption r ((x : Ask) → Writes x b → ⊥) (PickedOut (λ y. (x : Ask) → Writes x b → y ≡ x))

pub picked_xdp : (b : List ℕ) (r : Option Request) → le2 b 4 ≡ 19 → MatchOption r (length b < 52) (PickedOut (λ x. x ≡ placed_xdp b)) → Picked b r
picked_xdp b None k c = λ x w. at x w
  where
    at : (x : Ask) → Writes x b → ⊥
    at (set_xdp i d e m) w = omega (arith, ap length w.bytes, request_length_lem (set_xdp i d e m), c)
    at (add_clsact i) w = omega (arith, type_of_lem (add_clsact i) b w)
    at (attach y p) w = omega (arith, type_of_lem (attach y p) b w)
    at (replace y p) w = omega (arith, type_of_lem (replace y p) b w)
    at (remove y) w = omega (arith, type_of_lem (remove y) b w)
    at (list i p) w = omega (arith, type_of_lem (list i p) b w)
picked_xdp b (Some q) k c = (at, c.1)
  where
    at : (x : Ask) → Writes x b → asks q ≡ x
    at (set_xdp i d e m) w = c.0 ∙ ap placed_xdp w.bytes ∙ xdp_back i d e m w.sound
    at (add_clsact i) w = absurd (omega (arith, type_of_lem (add_clsact i) b w))
    at (attach y p) w = absurd (omega (arith, type_of_lem (attach y p) b w))
    at (replace y p) w = absurd (omega (arith, type_of_lem (replace y p) b w))
    at (remove y) w = absurd (omega (arith, type_of_lem (remove y) b w))
    at (list i p) w = absurd (omega (arith, type_of_lem (list i p) b w))

pub picked_traffic : (b : List ℕ) (r : Option Request) (kind flags : ℕ) → kind ≡ le2 b 4 → flags ≡ le2 b 6 →
    MatchOption r ((x : Ask) → Writes x b → kind ≡ le2 b 4 → ⊥) (PickedOut (λ x. x ≡ placed kind flags b)) → Picked b r
picked_traffic b None kind flags k f c = λ x w. c x w k
picked_traffic b (Some q) kind flags k f c = (
  (λ x w.
      c.0
      ∙ ap (λ (z : ℕ). placed z flags b) (k ∙ type_of_lem x b w)
      ∙ ap (λ (z : ℕ). placed (type_of x) z b) (f ∙ flags_of_lem x b w)
      ∙ ap (placed (type_of x) (flags_of x)) w.bytes
      ∙ placed_back x w.fits w.sound),
  c.1,
)

-- a request that passes the checks has at most 336 bytes
high : (x : Ask) → argument_fault x ≡ None → length (request_bytes x) ≤ 336
unfolding argument_fault
high (set_xdp i d None m) e = omega (arith, request_length_lem (set_xdp i d None m))
high (set_xdp i d (Some f) m) e = omega (arith, request_length_lem (set_xdp i d (Some f) m))
high (add_clsact i) e = omega (arith, request_length_lem (add_clsact i))
high (attach k p) e = omega (arith, request_length_lem (attach k p), name_short p.name (program_name k p e), class_short p.class)
high (replace k p) e = omega (arith, request_length_lem (replace k p), name_short p.name (program_name k p e), class_short p.class)
high (remove k) e = omega (arith, request_length_lem (remove k))
high (list i p) e = omega (arith, request_length_lem (list i p))

room : (bs : List ℕ) → length bs ≤ 336 → written None bs 336 ≡ Ok (length bs)
room bs h = let t : room_fault 336 (length bs) ≡ None = grind (arith, nat_tests) in ap (λ (f : Option ArgumentFault). unless f (length bs)) t

-- y was picked out and written again: w is the answer, last the buffer
module _ (b : List ℕ) (y : Ask) (only : (x : Ask) → Writes x b → y ≡ x) where
  not_refused : (e : ArgumentFault) → Err e ≡ written (argument_fault y) (request_bytes y) 336 → (x : Ask) → Writes x b → ⊥
  not_refused e w x h =
      let s : argument_fault y ≡ None = ap argument_fault (only x h) ∙ h.sound in
      let q : written (argument_fault y) (request_bytes y) 336 ≡ Ok (length (request_bytes y)) =
      ap (λ (f : Option ArgumentFault). written f (request_bytes y) 336) s ∙ room (request_bytes y) (high y s) in
      let z : ◌≡◌ {A = ℕ} 0 1 = cc in
      omega arith

  pub not_none : (r : Result ℕ ArgumentFault) → ◌≡◌ {A = Option ℕ} None (result_ok r) → r ≡ written (argument_fault y) (request_bytes y) 336 → (x : Ask) → Writes x b → ⊥
  not_none (Err e) p w = not_refused e w
  not_none (Ok n) p w = absurd (let z : ◌≡◌ {A = ℕ} 0 1 = cc in omega arith)

  module _ (r : Result ℕ ArgumentFault) (n : ℕ) (o : Some n ≡ result_ok r) (out last : List ℕ) (w : r ≡ written (argument_fault y) (request_bytes y) 336) (l : last ≡ buffer r (request_bytes y) out) where
    was : r ≡ Ok n
    was = at r o
      where
        at : (q : Result ℕ ArgumentFault) → Some n ≡ result_ok q → q ≡ Ok n
        at (Ok m) e = cc
        at (Err f) e = absurd (let z : ◌≡◌ {A = ℕ} 0 1 = cc in omega arith)

    again : take n last ≡ request_bytes y
    again =
        let a = answered (argument_fault y) (request_bytes y) 336 n (sym was ∙ w) in
        ap (take n) (l ∙ ap (λ (q : Result ℕ ArgumentFault). buffer q (request_bytes y) out) was) ∙ take_at (request_bytes y) (drop n out) n (sym a.1)

    is_written : Fits y → b ≡ take n last → Writes y b
    is_written f e = record { fits = f; sound = (answered (argument_fault y) (request_bytes y) 336 n (sym was ∙ w)).0; bytes = e ∙ again }

    not_other : (b ≡ take n last → ⊥) → (x : Ask) → Writes x b → ⊥
    not_other d x h = d (h.bytes ∙ sym (ap request_bytes (only x h)) ∙ sym again)

    -- it is kept if its bytes are these, as e says
    pub kept : (q : Request) → asks q ≡ y → Fits y → (e : Bool) → Decides e (b ≡ take n last) →
        IfSome (then_some e q) (λ p. Writes (asks p) b) × ((x : Ask) → Writes x b → option_map asks (then_some e q) ≡ Some x)
    kept q a f true d = (subst (λ (z : Ask). Writes z b) (sym a) (is_written f (d.0 refl)), λ x w. ap Some (a ∙ only x w))
    kept q a f false d = (tt, λ x w. absurd (not_other (λ p. let z : false ≡ true = d.1 p in absurd (let t : ◌≡◌ {A = ℕ} 0 1 = cc in omega arith)) x w))

-- the three flags of a mode are bits 1 to 3
mode_bits : (n : ℕ) → bit_and n 14 ≡ n / 2 % 8 * 2
mode_bits n = and_high n 3 1

-- the first mode whose flag these are, or the default
pub mode_found : (n : ℕ) → unwrap_or (find (λ m. mode_flags m == bit_and n 14) (Default ∷ Skb ∷ Driver ∷ Hardware ∷ [])) Default ≡ mode_of n
mode_found n = rw (mode_bits n) (grind (arith, nat_tests))
