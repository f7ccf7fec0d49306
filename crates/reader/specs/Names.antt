-- Texts and names in attributes.
use Rattle.std.specs.Prelude.{ℕ, ◌+◌, Bool, false, cond, not, ◌&&◌, ◌||◌, List, [], ◌∷◌, length, take, Ok, Err, Result, ◌==◌}
use Rattle.std.specs.Borrow.{Bor}
use Rattle.std.specs.List.{prefix_len}
use Rattle.std.specs.Str.{bytes_eq}
use Rattle.records.specs.Layouts.{Attribute}
use Rattle.reader.specs.Rows.{plain_kind, attributes}
use Rattle.reader.specs.Visits.{then, through}
use Rattle.reader.specs.declared.fault.AttributeFault.{AttributeFault}
use Rattle.reader.specs.declared.fault.AttributeFault.TheVariants.{Text}

abbrev pub nonzero : ℕ → Bool
nonzero x = not (x == 0)

-- where the first zero stands
abbrev pub zero_at : List ℕ → ℕ
zero_at p = prefix_len nonzero p

-- a text has one zero, at its end, and is what stands before it; anything else is 22
abbrev pub text_of : List ℕ → Result (List ℕ) AttributeFault
text_of p = cond (zero_at p + 1 == length p) (Ok (take (zero_at p) p)) (Err Text)

-- a name that is looked for, and whether it was there
pub record Sought : Type 0 where
  pub name : List ℕ
  pub found : Bool

abbrev pub named : Sought → List ℕ → Sought
named s text = record { name = s.name; found = s.found || bytes_eq text s.name }

-- inside the options: a name, of type 7
abbrev pub in_options : Sought → Attribute → Result Sought AttributeFault
in_options s a = cond (plain_kind a == 7) (then (text_of a.payload) (λ text. Ok (named s text))) (Ok s)

-- in the row of a filter: options, of type 2, with a row inside
abbrev pub in_filter : Sought → Attribute → Result Sought AttributeFault
in_filter s a = cond (plain_kind a == 2) (through in_options s a.payload) (Ok s)

-- in the row of a filter: the kind, of type 1, is "bpf" and a zero
abbrev pub is_bpf : Bool → Attribute → Result Bool AttributeFault
is_bpf b a = Ok (b || (plain_kind a == 1 && bytes_eq a.payload (98 ∷ 112 ∷ 102 ∷ 0 ∷ [])))

-- whether the filter with this row has this name: the row is walked whole before its options are opened, and they only in a bpf filter
abbrev pub matching : List ℕ → List ℕ → Result Bool AttributeFault
matching name row =
    then (through is_bpf false row)
    (λ bpf. cond bpf (then (through in_filter (record { name = name; found = false }) row) (λ s. Ok s.found)) (Ok false))

-- among the attributes of an error message: a text, of type 1, is well formed
abbrev pub checked_text : Unit {0} → Attribute → Result (Unit {0}) AttributeFault
checked_text u a = cond (plain_kind a == 1) (then (text_of a.payload) (λ _. Ok u)) (Ok u)

-- the text that an attribute is, if it is one
abbrev pub text_in : Attribute → Result (List ℕ) AttributeFault
text_in a = cond (plain_kind a == 1) (text_of a.payload) (Err Text)

abbrev pub on_text : Result (List ℕ) AttributeFault → List (List ℕ) → List (List ℕ)
on_text (Ok t) l = t ∷ l
on_text (Err e) l = l

abbrev pub texts_in : List Attribute → List (List ℕ)
texts_in [] = []
texts_in (a ∷ rest) = on_text (text_in a) (texts_in rest)

-- the texts of a row, to its end or its first fault
abbrev pub texts_of : List ℕ → List (List ℕ)
texts_of b = texts_in (attributes b).found

-- what a reference in an answer points to
abbrev pub shown : Result (Bor (List ℕ)) AttributeFault → Result (List ℕ) AttributeFault
shown (Ok r) = Ok r.now
shown (Err e) = Err e
