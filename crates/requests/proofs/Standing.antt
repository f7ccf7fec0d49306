-- What is written is laid out as the public documents have it. Assumes nothing.
use Rattle.std.proofs.Common.{◌≡◌, ℕ, ◌+◌, ◌^◌, ◌<◌, ◌≤◌, List, [], ◌∷◌, ◌++◌, map, length, take, drop, replicate, IfOk, Some, None, Ok, Err, Option, Result, sym, refl, ap, ◌∙◌, subst, inr, append_assoc, arith}
use Rattle.std.specs.Option.{option_map}
use Rattle.std.proofs.lemmas.List.{append-nil, length-append, length-replicate, take_at}
use Rattle.std.proofs.lemmas.Bool.Decides.{nat_tests}
use Rattle.records.specs.Words.{bytes2, bytes4}
use Rattle.records.specs.Align.{fill}
use Rattle.records.specs.Layouts.{Attribute, ZeroPaddedAt, ZeroPaddedRow, none, more, Message, MessageAt}
use Rattle.records.specs.WordsLemmas.{half_back, word_back}
use Rattle.requests.specs.declared.fault.ArgumentFault.{ArgumentFault}
use Rattle.requests.specs.Asks.{Key, Program, Ask, set_xdp, add_clsact, attach, replace, remove, list}
use Rattle.requests.specs.Table.{Item, value, nest, optional, type_of, flags_of, family_of, items_of, filter_header, program_items}
use Rattle.requests.specs.Bytes.{attribute_bytes, row_bytes, attribute_of, message_bytes, request_message, request_bytes, request_length, optional_length}
use Rattle.requests.specs.Builders.{tc_bytes}
use Rattle.requests.specs.Refusals.{argument_fault, program_fault, interface_fault, descriptor_fault, name_fault, first, room_fault, unless, written, Written}
use Rattle.requests.specs.Stands.{plain, nested, Are, none as no_items, more as more_items, Stands}
use Rattle.requests.specs.declared.mode.XdpMode.{XdpMode}
use Rattle.requests.proofs.Filters.{options_length, filter_length}

-- short enough for the 16 bits of a length, with a type of 16 bits
pub record Small (a : Attribute) : Type 0 where
  pub len : 4 + length a.payload < 2 ^ 16
  pub kind : a.kind < 2 ^ 16

pub AllSmall : List Attribute → Type 0
AllSmall [] = Unit {0}
AllSmall (a ∷ row) = Small a × AllSmall row

attribute_stands : (a : Attribute) (r : List ℕ) → Small a → ZeroPaddedAt (attribute_bytes a ++ r) a r
attribute_stands a r s =
    let n : ℕ = 4 + length a.payload in
    let z = replicate (fill n) 0 in
    record {
      stands = record {
        header = bytes2 n ++ bytes2 a.kind;
        padding = z;
        bytes = ap (λ (y : List ℕ). (bytes2 n ++ bytes2 a.kind) ++ y) (append_assoc a.payload z r);
        four = refl;
        len = half_back n s.len;
        kind = half_back a.kind s.kind;
        pads = length-replicate (fill n) 0;
      };
      zeros = refl;
    }

pub row_stands : (row : List Attribute) → AllSmall row → ZeroPaddedRow (row_bytes row) row
unfolding AllSmall
row_stands [] s = none
row_stands (a ∷ row) s = more (attribute_stands a (row_bytes row) s.0) (row_stands row s.1)

pub message_stands : (m : Message) → 16 + length m.payload < 2 ^ 32 → m.kind < 2 ^ 16 → m.flags < 2 ^ 16 → m.seq < 2 ^ 32 → m.port < 2 ^ 32 → MessageAt (message_bytes m) m []
message_stands m l k f s p =
    let n : ℕ = 16 + length m.payload in
    record {
      header = bytes4 n ++ (bytes2 m.kind ++ (bytes2 m.flags ++ (bytes4 m.seq ++ bytes4 m.port)));
      padding = [];
      bytes = ap (λ (y : List ℕ). (bytes4 n ++ (bytes2 m.kind ++ (bytes2 m.flags ++ (bytes4 m.seq ++ bytes4 m.port)))) ++ y) (sym (append-nil m.payload));
      sixteen = refl;
      len = word_back n l;
      kind = half_back m.kind k;
      flags = half_back m.flags f;
      seq = word_back m.seq s;
      port = word_back m.port p;
      few = omega arith;
      pads = inr refl;
    }

-- the items of a table
pub ItemsSmall : List Item → Type 0
ItemsSmall [] = Unit {0}
ItemsSmall (value kind payload ∷ items) = Small (record { kind = kind; payload = payload }) × ItemsSmall items
ItemsSmall (nest kind row ∷ items) = Small (attribute_of (nest kind row)) × AllSmall row × ItemsSmall items

items_stand : (items : List Item) → ItemsSmall items → Are (map attribute_of items) items
unfolding ItemsSmall
items_stand [] s = no_items
items_stand (value kind payload ∷ items) s = more_items plain (items_stand items s.1)
items_stand (nest kind row ∷ items) s = more_items (nested (row_stands row s.1)) (items_stand items s.2)

items_small : (items : List Item) → ItemsSmall items → AllSmall (map attribute_of items)
unfolding ItemsSmall AllSmall
items_small [] s = tt
items_small (value kind payload ∷ items) s = (s.0, items_small items s.1)
items_small (nest kind row ∷ items) s = (s.0, items_small items s.2)

pub request_stands : (x : Ask) → ItemsSmall (items_of x) → length (request_bytes x) < 2 ^ 32 → type_of x < 2 ^ 16 → flags_of x < 2 ^ 16 → Stands (request_bytes x) x
unfolding request_bytes
request_stands x s l t f =
    record {
      row = row_bytes (map attribute_of (items_of x));
      attributes = map attribute_of (items_of x);
      message = message_stands (request_message (type_of x) (flags_of x) (family_of x) (items_of x)) (omega arith) t f (omega arith) (omega arith);
      laid = row_stands (map attribute_of (items_of x)) (items_small (items_of x) s);
      items = items_stand (items_of x) s;
    }

-- how long each request is
pub request_length_lem : (x : Ask) → length (request_bytes x) ≡ request_length x
unfolding request_bytes tc_bytes
request_length_lem (set_xdp i d None m) = refl
request_length_lem (set_xdp i d (Some e) m) = refl
request_length_lem (add_clsact i) = refl
request_length_lem (attach k p) = filter_length p.class p.descriptor p.name 1 0x060D (filter_header k)
request_length_lem (replace k p) = filter_length p.class p.descriptor p.name 1 0x000D (filter_header k)
request_length_lem (remove k) = refl
request_length_lem (list i p) = refl

-- what the checks leave
pub first_none : (a b : Option ArgumentFault) → first a b ≡ None → (a ≡ None) × (b ≡ None)
first_none None b e = (refl, e)
first_none (Some f) b e = let z : ◌≡◌ {A = ℕ} 0 1 = cc in absurd (omega arith)

pub name_short : (n : List ℕ) → name_fault n ≡ None → length n ≤ 256
name_short n e = grind (arith, nat_tests)

pub program_name : (k : Key) (p : Program) → program_fault k p ≡ None → name_fault p.name ≡ None
program_name k p e = (first_none (descriptor_fault p.descriptor) (name_fault p.name) (first_none (interface_fault k.interface) _ e).1).1

-- within the bounds of the layout
small_word : (kind x : ℕ) → kind < 2 ^ 16 → Small (record { kind = kind; payload = bytes4 x })
small_word kind x h = record { len = omega arith; kind = h }

pub class_short : (c : Option ℕ) → optional_length c ≤ 8
class_short None = omega arith
class_short (Some c) = omega arith

program_small : (p : Program) → length p.name ≤ 256 → ItemsSmall (program_items p)
unfolding ItemsSmall AllSmall
program_small p h = (
  record { len = omega arith; kind = omega arith },
  (record { len = omega (arith, options_length p.class p.descriptor p.name 1, class_short p.class); kind = omega arith }, row p.class, tt),
)
  where
    tail : AllSmall (record { kind = 6; payload = bytes4 p.descriptor } ∷ record { kind = 7; payload = p.name ++ (0 ∷ []) } ∷ record { kind = 8; payload = bytes4 1 } ∷ [])
    tail = (
      small_word 6 p.descriptor (omega arith),
      (record { len = omega (arith, length-append p.name (0 ∷ [])); kind = omega arith }, (small_word 8 1 (omega arith), tt)),
    )

    row : (c : Option ℕ) →
        AllSmall (optional 3 (option_map bytes4 c) ++ (record { kind = 6; payload = bytes4 p.descriptor } ∷ record { kind = 7; payload = p.name ++ (0 ∷ []) } ∷ record { kind = 8; payload = bytes4 1 } ∷ []))
    row None = tail
    row (Some c) = (small_word 3 c (omega arith), tail)

xdp_small : (i : ℕ) (d e : Option ℕ) (m : XdpMode) → ItemsSmall (items_of (set_xdp i d e m))
unfolding ItemsSmall AllSmall
xdp_small i d None m = (record { len = omega arith; kind = omega arith }, (small_word 1 _ (omega arith), (small_word 3 _ (omega arith), tt)), tt)
xdp_small i d (Some e) m =
    (record { len = omega arith; kind = omega arith }, (small_word 1 _ (omega arith), (small_word 3 _ (omega arith), (small_word 8 _ (omega arith), tt))), tt)

pub stands : (x : Ask) → argument_fault x ≡ None → Stands (request_bytes x) x
unfolding argument_fault ItemsSmall
stands (set_xdp i d None m) e = request_stands (set_xdp i d None m) (xdp_small i d None m) (omega (arith, request_length_lem (set_xdp i d None m))) (omega arith) (omega arith)
stands (set_xdp i d (Some f) m) e =
    request_stands (set_xdp i d (Some f) m) (xdp_small i d (Some f) m) (omega (arith, request_length_lem (set_xdp i d (Some f) m))) (omega arith) (omega arith)
stands (add_clsact i) e =
    request_stands (add_clsact i) (record { len = omega arith; kind = omega arith }, tt) (omega (arith, request_length_lem (add_clsact i))) (omega arith) (omega arith)
stands (attach k p) e =
    let h = name_short p.name (program_name k p e) in
    request_stands (attach k p) (program_small p h) (omega (arith, request_length_lem (attach k p), class_short p.class)) (omega arith) (omega arith)
stands (replace k p) e =
    let h = name_short p.name (program_name k p e) in
    request_stands (replace k p) (program_small p h) (omega (arith, request_length_lem (replace k p), class_short p.class)) (omega arith) (omega arith)
stands (remove k) e = request_stands (remove k) tt (omega (arith, request_length_lem (remove k))) (omega arith) (omega arith)
stands (list i p) e = request_stands (list i p) tt (omega (arith, request_length_lem (list i p))) (omega arith) (omega arith)

-- the answer, the buffer and the layout after a request is written
abbrev pub Wrote : Ask → Result ℕ ArgumentFault → List ℕ → List ℕ → Type 0
Wrote x r out last = Written (argument_fault x) (request_bytes x) r out last × IfOk r (λ n. Stands (take n last) x)

pub answered : (f : Option ArgumentFault) (bs : List ℕ) (k n : ℕ) → Ok n ≡ written f bs k → (f ≡ None) × (n ≡ length bs)
answered (Some x) bs k n e = let z : ◌≡◌ {A = ℕ} 0 1 = cc in absurd (omega arith)
answered None bs k n e = (refl, at (room_fault k (length bs)) e)
  where
    at : (g : Option ArgumentFault) → ◌≡◌ {A = Result ℕ ArgumentFault} (Ok n) (unless g (length bs)) → n ≡ length bs
    at None q = cc
    at (Some x) q = let z : ◌≡◌ {A = ℕ} 0 1 = cc in absurd (omega arith)

pub wrote : (x : Ask) (r : Result ℕ ArgumentFault) (out last : List ℕ) → Written (argument_fault x) (request_bytes x) r out last → Wrote x r out last
wrote x (Err f) out last w = (w, tt)
wrote x (Ok n) out last w =
    let a = answered (argument_fault x) (request_bytes x) (length out) n w.result in
    let t : take n last ≡ request_bytes x = ap (take n) w.after ∙ take_at (request_bytes x) (drop n out) n (sym a.1) in
    (w, subst (λ (b : List ℕ). Stands b x) (sym t) (stands x a.0))

pub wrote_as : (y x : Ask) (r : Result ℕ ArgumentFault) (out last : List ℕ) → y ≡ x → Wrote x r out last → Wrote y r out last
wrote_as y x r out last e w = subst (λ (z : Ask). Wrote z r out last) (sym e) w
