-- Picking the arguments out of a request's bytes undoes writing them. Assumes nothing.
use Rattle.std.proofs.Common.{◌≡◌, ℕ, ◌+◌, ◌-◌, ◌*◌, ◌/◌, ◌^◌, ◌<◌, ◌≤◌, List, [], ◌∷◌, ◌++◌, map, length, take, drop, Some, None, Option, refl, ap, ◌∙◌, append_assoc, arith, w32, of_z}
use Rattle.std.proofs.lemmas.List.{take_at, length-append}
use Rattle.std.proofs.lemmas.Bool.Decides.{nat_tests}
use Rattle.records.specs.Words.{le2, le4, bytes2, bytes4}
use Rattle.records.specs.Fields.{tcmsg_bytes, tcmsg_of, TcmsgFits, ifinfomsg_bytes, ifinfomsg_of}
use Rattle.records.specs.WordsLemmas.{half_back, word_back}
use Rattle.records.proofs.Same.{ifinfomsg_back, tcmsg_back}
use Rattle.requests.specs.declared.mode.XdpMode.{XdpMode}
use Rattle.requests.specs.declared.mode.XdpMode.TheVariants.{Default, Skb, Driver, Hardware}
use Rattle.requests.specs.Modes.{mode_flags}
use Rattle.requests.specs.Asks.{Key, Program, Ask, set_xdp, add_clsact, attach, replace, remove, list}
use Rattle.requests.specs.Table.{type_of, flags_of, condition_flag, signed_descriptor, interface_header, traffic_header, filter_header, bpf_items, items_of}
use Rattle.requests.specs.Bytes.{request_bytes, request_length, optional_length, row_bytes, attribute_of}
use Rattle.requests.specs.Refusals.{argument_fault, program_fault, interface_fault, descriptor_fault, optional_descriptor_fault, first}
use Rattle.requests.specs.Back.{KeyFits, ClassFits, Fits, Writes}
use Rattle.requests.specs.Places.{header_key, header_of, base_of, placed_program, Short, small, nameless, cut, mode_of, descriptor_of, placed_xdp, placed}
use Rattle.records.specs.declared.ifinfomsg.Ifinfomsg.{Ifinfomsg}
use Rattle.records.specs.declared.tcmsg.Tcmsg.{Tcmsg}
use Rattle.requests.specs.Builders.{tc_bytes}
use Rattle.requests.proofs.Filters.{filter_length}
use Rattle.requests.proofs.Standing.{first_none, name_short, program_name, request_length_lem}

-- type and flags in their places
pub type_is : (x : Ask) → le2 (request_bytes x) 4 ≡ type_of x
unfolding request_bytes
type_is (set_xdp i d e m) = refl
type_is (add_clsact i) = refl
type_is (attach k p) = refl
type_is (replace k p) = refl
type_is (remove k) = refl
type_is (list i p) = refl

pub flags_is : (x : Ask) → le2 (request_bytes x) 6 ≡ flags_of x
unfolding request_bytes
flags_is (set_xdp i d e m) = refl
flags_is (add_clsact i) = refl
flags_is (attach k p) = refl
flags_is (replace k p) = refl
flags_is (remove k) = refl
flags_is (list i p) = refl

-- the shortest requests have 36 bytes
low : (x : Ask) → 36 ≤ request_length x
low (set_xdp i d e m) = omega arith
low (add_clsact i) = omega arith
low (attach k p) = omega arith
low (replace k p) = omega arith
low (remove k) = omega arith
low (list i p) = omega arith

pub long_enough : (x : Ask) (b : List ℕ) → Writes x b → 36 ≤ length b
long_enough x b w = omega (arith, ap length w.bytes, request_length_lem x, low x)

-- what the checks leave
interface_low : (i : ℕ) → interface_fault i ≡ None → i < 2 ^ 31
interface_low i e = grind (arith, nat_tests)

descriptor_low : (d : ℕ) → descriptor_fault d ≡ None → d < 2 ^ 31
descriptor_low d e = grind (arith, nat_tests)

key_interface : (k : Key) (p : Program) → program_fault k p ≡ None → k.interface < 2 ^ 31
key_interface k p e = interface_low k.interface (first_none (interface_fault k.interface) _ e).0

pub program_descriptor : (k : Key) (p : Program) → program_fault k p ≡ None → p.descriptor < 2 ^ 31
program_descriptor k p e = descriptor_low p.descriptor (first_none (descriptor_fault p.descriptor) _ (first_none (interface_fault k.interface) _ e).1).0

-- family headers
traffic_fits : (i handle parent info : ℕ) → i < 2 ^ 31 → handle < 2 ^ 32 → parent < 2 ^ 32 → info < 2 ^ 32 → TcmsgFits (traffic_header i handle parent info)
traffic_fits i handle parent info a b c d = (omega arith, omega arith, omega arith, record { sfits = a }, b, c, d)

filter_fits : (k : Key) → k.interface < 2 ^ 31 → KeyFits k → TcmsgFits (filter_header k)
filter_fits k i f = traffic_fits k.interface k.handle k.parent _ i f.2 f.0 (omega (arith, f.1))

key_is : (k : Key) → header_key (filter_header k) ≡ k
key_is k = let e : (k.priority * 65536 + 0x0300) / 65536 ≡ k.priority = omega arith in
    ap (λ (q : ℕ). record { interface = k.interface; parent = k.parent; priority = q; handle = k.handle }) e

-- the header of each traffic control request
filter_header_lem : (x : Ask) (k : Key) (r : List ℕ) → TcmsgFits (filter_header k) → drop 16 (request_bytes x) ≡ tcmsg_bytes (filter_header k) ++ r → header_key (header_of (request_bytes x)) ≡ k
filter_header_lem x k r f e = ap (λ (b : List ℕ). header_key (tcmsg_of b)) e ∙ ap header_key (tcmsg_back (filter_header k) r f) ∙ key_is k

-- the program of a new filter
same_program : {d d' : ℕ} {n n' : List ℕ} {c c' : Option ℕ} → d ≡ d' → n ≡ n' → c ≡ c' →
    ◌≡◌ {A = Program} record { descriptor = d; name = n; class = c } record { descriptor = d'; name = n'; class = c' }
same_program p q r = cc

name_back : (n z r q s t : List ℕ) (m : ℕ) → m ≡ length n + 5 → take (m - 5) (((((n ++ z) ++ r) ++ q) ++ s) ++ t) ≡ n
name_back n z r q s t m e =
    let a : ((((n ++ z) ++ r) ++ q) ++ s) ++ t ≡ n ++ (z ++ (r ++ (q ++ (s ++ t)))) = simp append_assoc in
    ap (take (m - 5)) a ∙ take_at n (z ++ (r ++ (q ++ (s ++ t)))) (m - 5) (omega arith)

name_size : (n : List ℕ) → length n ≤ 256 → le2 (bytes2 (4 + length (n ++ (0 ∷ [])))) 0 ≡ length n + 5
name_size n h = half_back (4 + length (n ++ (0 ∷ []))) (omega (arith, length-append n (0 ∷ []))) ∙ omega (arith, length-append n (0 ∷ []))

-- the same for attach and replace, which differ in their flags
module _ (flags : ℕ) (family : Tcmsg) (d : ℕ) (n : List ℕ) (i : d < 2 ^ 32) (h : length n ≤ 256) where
  pub program_back : (c : Option ℕ) → ClassFits c → placed_program (tc_bytes 44 flags family (bpf_items c d n 1)) ≡ record { descriptor = d; name = n; class = c }
  unfolding tc_bytes
  program_back None f = same_program (word_back d i) (name_back n _ _ _ _ _ _ (name_size n h)) refl
  program_back (Some c) f = same_program (word_back d i) (name_back n _ _ _ _ _ _ (name_size n h)) (ap Some (word_back c f))

  size_is : (c : Option ℕ) → le2 (tc_bytes 44 flags family (bpf_items c d n 1)) (base_of (tc_bytes 44 flags family (bpf_items c d n 1)) + 8) ≡ length n + 5
  unfolding tc_bytes
  size_is None = name_size n h
  size_is (Some c) = name_size n h

  base_is : (c : Option ℕ) → base_of (tc_bytes 44 flags family (bpf_items c d n 1)) ≡ 48 + optional_length c
  unfolding tc_bytes
  base_is None = refl
  base_is (Some c) = refl

  pub not_short : (c : Option ℕ) → Short (tc_bytes 44 flags family (bpf_items c d n 1)) → ⊥
  not_short c (small s) = omega (arith, filter_length c d n 1 flags family)
  not_short c (nameless s) = omega (arith, size_is c)
  not_short c (cut s) = omega (arith, size_is c, base_is c, filter_length c d n 1 flags family)

abbrev row_of : Ask → List ℕ
row_of x = row_bytes (map attribute_of (items_of x))

-- the XDP program of an interface
mode_back : (m : XdpMode) (e : Option ℕ) → mode_of (le4 (bytes4 (mode_flags m + condition_flag e)) 0) ≡ m
mode_back Default None = refl
mode_back Default (Some e) = refl
mode_back Skb None = refl
mode_back Skb (Some e) = refl
mode_back Driver None = refl
mode_back Driver (Some e) = refl
mode_back Hardware None = refl
mode_back Hardware (Some e) = refl

descriptor_back : (d : Option ℕ) → optional_descriptor_fault d ≡ None → descriptor_of (le4 (bytes4 (of_z w32 (signed_descriptor d))) 0) ≡ d
descriptor_back None e = refl
descriptor_back (Some d) e =
    let l = descriptor_low d e in
    let t : descriptor_of d ≡ Some d = grind (arith, nat_tests) in
    ap descriptor_of (word_back d (omega arith)) ∙ t

same_xdp : {i i' : ℕ} {d d' e e' : Option ℕ} {m m' : XdpMode} → i ≡ i' → d ≡ d' → e ≡ e' → m ≡ m' → set_xdp i d e m ≡ set_xdp i' d' e' m'
same_xdp p q r s = cc

interface_back : (i : ℕ) (r : List ℕ) → i < 2 ^ 31 → of_z w32 (ifinfomsg_of (ifinfomsg_bytes (interface_header i) ++ r)).index ≡ i
interface_back i r l =
    ap (λ (h : Ifinfomsg). of_z w32 h.index) (ifinfomsg_back (interface_header i) r (omega arith, omega arith, omega arith, record { sfits = l }, omega arith, omega arith))

pub xdp_back : (i : ℕ) (d e : Option ℕ) (m : XdpMode) → argument_fault (set_xdp i d e m) ≡ None → placed_xdp (request_bytes (set_xdp i d e m)) ≡ set_xdp i d e m
unfolding request_bytes argument_fault
xdp_back i d e m s = at e (first_none (optional_descriptor_fault d) (optional_descriptor_fault e) a.1).1
  where
    a : (interface_fault i ≡ None) × (first (optional_descriptor_fault d) (optional_descriptor_fault e) ≡ None)
    a = first_none (interface_fault i) (first (optional_descriptor_fault d) (optional_descriptor_fault e)) s

    b : optional_descriptor_fault d ≡ None
    b = (first_none (optional_descriptor_fault d) (optional_descriptor_fault e) a.1).0

    at : (f : Option ℕ) → optional_descriptor_fault f ≡ None → placed_xdp (request_bytes (set_xdp i d f m)) ≡ set_xdp i d f m
    at None q = same_xdp (interface_back i (row_of (set_xdp i d None m)) (interface_low i a.0)) (descriptor_back d b) refl (mode_back m None)
    at (Some f) q =
        same_xdp (interface_back i (row_of (set_xdp i d (Some f) m)) (interface_low i a.0)) (descriptor_back d b) (ap Some (word_back f (omega (arith, descriptor_low f q)))) (mode_back m (Some f))

-- all requests
same_filter : (make : Key → Program → Ask) (k k' : Key) (p p' : Program) → k ≡ k' → p ≡ p' → make k p ≡ make k' p'
same_filter make k k' p p' e f = ap (λ (z : Key). make z p) e ∙ ap (make k') f

pub placed_back : (x : Ask) → Fits x → argument_fault x ≡ None → placed (type_of x) (flags_of x) (request_bytes x) ≡ x
unfolding request_bytes argument_fault tc_bytes
placed_back (set_xdp i d e m) f s = xdp_back i d e m s
placed_back (add_clsact i) f s =
    ap (λ (t : Tcmsg). add_clsact (header_key t).interface)
    (tcmsg_back (traffic_header i 0xFFFF0000 0xFFFFFFF1 0) (row_of (add_clsact i)) (traffic_fits i _ _ _ (interface_low i s) (omega arith) (omega arith) (omega arith)))
placed_back (attach k p) f s =
    same_filter attach _ k _ p (filter_header_lem (attach k p) k _ (filter_fits k (key_interface k p s) f.0) refl)
    (program_back 0x060D (filter_header k) p.descriptor p.name (omega (arith, program_descriptor k p s)) (name_short p.name (program_name k p s)) p.class f.1)
placed_back (replace k p) f s =
    same_filter replace _ k _ p (filter_header_lem (replace k p) k _ (filter_fits k (key_interface k p s) f.0) refl)
    (program_back 0x000D (filter_header k) p.descriptor p.name (omega (arith, program_descriptor k p s)) (name_short p.name (program_name k p s)) p.class f.1)
placed_back (remove k) f s = ap remove (filter_header_lem (remove k) k _ (filter_fits k (interface_low k.interface s) f) refl)
placed_back (list i p) f s =
    ap (λ (t : Tcmsg). list (header_key t).interface t.parent) (tcmsg_back (traffic_header i 0 p 0) (row_of (list i p)) (traffic_fits i _ _ _ (interface_low i s) (omega arith) f (omega arith)))
