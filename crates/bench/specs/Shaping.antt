-- The messages that the bench host replies with are of the shapes that the rules ask for. Assumes nothing.
use Rattle.std.specs.Prelude.{◌≡◌, ℕ, ◌+◌, ◌/◌, ◌^◌, ◌<◌, ◌≤◌, Bool, true, false, cond, ◌&&◌, List, [], ◌∷◌, ◌++◌, map, length, replicate, ℤ, pos, negsuc, Some, None, Option, FitsSigned, ◌==◌, bit_and, nat_le, refl}
use Rattle.std.proofs.Common.{ap, ◌∙◌, append_assoc, to_z, of_z, arith}
use Rattle.std.specs.Int.{w32}
use Rattle.std.proofs.Math.Facts.{Fits-of_z}
use Rattle.std.specs.List.{AllByRecursion}
use Rattle.std.proofs.lemmas.Nat.{div-mul-add}
use Rattle.std.proofs.lemmas.Slice.Eq.{bytes_eq-Decides}
use Rattle.std.proofs.lemmas.List.{length-append, length-replicate}
use Rattle.std.proofs.lemmas.Int.{to_z-of_z}
use Rattle.std.proofs.lemmas.Bool.{and_parts, or_parts, eqb-false, leb-true, true≢false}
use Rattle.std.proofs.lemmas.Bool.Decides.{nat_tests}
use Rattle.records.specs.Words.{bytes2, bytes4}
use Rattle.records.specs.Align.{fill}
use Rattle.records.specs.Fields.{nlmsghdr_bytes, nlmsghdr_of, tcmsg_bytes, tcmsg_of}
use Rattle.records.specs.Layouts.{Attribute, AttributeAt, Row, none, more}
use Rattle.records.specs.declared.tcmsg.Tcmsg.{Tcmsg}
use Rattle.records.specs.WordsLemmas.{half_back, word_back}
use Rattle.records.proofs.Same.{tcmsg_back}
use Rattle.requests.specs.declared.fault.ArgumentFault.{ArgumentFault}
use Rattle.requests.specs.declared.fault.ArgumentFault.TheVariants.{ZeroInName}
use Rattle.requests.specs.Asks.{Key}
use Rattle.requests.specs.Back.{KeyFits}
use Rattle.requests.specs.Bytes.{attribute_bytes, row_bytes}
use Rattle.requests.specs.Refusals.{has_zero, interface_fault, name_fault}
use Rattle.requests.specs.Table.{filter_header}
use Rattle.requests.specs.FilterMessages.{closed, name_row, name_options, filter_row, optional_name_fault, filter_fault}
use Rattle.requests.proofs.Standing.{first_none, name_short}
use Rattle.requests.proofs.Telling.{name_length}
use Rattle.hosts.specs.Meaning.{Filter, bpf, ZeroFree, Named, Sound}
use Rattle.hosts.specs.Shapes.{
  payloads,
  status_in,
  ErrorMessage,
  Acknowledges,
  Refuses,
  NamesKey,
  Echoes,
  Optioned,
  named,
  bare,
  Lists,
  Done,
}
use Rattle.hosts.specs.Rules.{Listed, ends as last, filter as next}
use Rattle.filters.specs.Fitting.{passes, may_be_named, Stands}
use Rattle.bench.specs.Replies.{told, answer, done}

-- error messages
says : (s : ℤ) (r : List ℕ) → FitsSigned w32 s → status_in (bytes4 (of_z w32 s) ++ r) ≡ s
says s r f = ap (to_z w32) (word_back (of_z w32 s) (Fits-of_z f).fits) ∙ to_z-of_z w32 s f

an_error : (q : List ℕ) (s : ℤ) → ErrorMessage (answer q s)
an_error q s = record { kind = refl; single = refl; long = omega arith }

pub acknowledges : (q : List ℕ) → Acknowledges (answer q (pos 0))
acknowledges q = record { error = an_error q (pos 0); status = refl }

pub refuses : (q : List ℕ) (n : ℕ) → n < 4095 → Refuses (answer q (negsuc n))
refuses q n h =
    record {
      error = an_error q (negsuc n);
      below = n;
      least = h;
      status = says (negsuc n) (nlmsghdr_bytes (nlmsghdr_of q)) (record { sfits = omega arith });
      row = [];
      stands = none;
      texts = tt;
    }

pub ends : Done (pos 0) done
ends = record { kind = refl; part = refl; long = omega arith; says = refl }

-- what the checks of a filter leave
passed : (f : Option ArgumentFault) → passes f ≡ true → f ≡ None
passed None e = refl
passed (Some f) e = absurd (true≢false (cc))

zero_free : (t : List ℕ) → has_zero t ≡ false → ZeroFree t
zero_free [] e = tt
zero_free (b ∷ t) e =
    let p = or_parts (b == 0) (has_zero t) e in
    (eqb-false b 0 p.0, zero_free t p.1)

unfaulted_text : (t : List ℕ) → name_fault t ≡ None → ZeroFree t
unfaulted_text t e = zero_free t (by (has_zero t) ZeroInName _ e)
  where
    by : (b : Bool) (f : ArgumentFault) (g : Option ArgumentFault) → cond b (Some f) g ≡ None → b ≡ false
    by false f g q = refl
    by true f g q = let z : ◌≡◌ {A = ℕ} 0 1 = cc in absurd (omega arith)

unfaulted_interface : (i : ℕ) → interface_fault i ≡ None → i ≤ 2147483647
unfaulted_interface i e = grind (arith, nat_tests)

-- what a filter that stands has
record Fitting (f : Filter) : Type 0 where
  interface : f.key.interface ≤ 2147483647
  priority : 1 ≤ f.key.priority
  handle : 1 ≤ f.key.handle
  kind_free : ZeroFree f.kind
  kind_short : length f.kind ≤ 256
  name : optional_name_fault f.name ≡ None
  may : may_be_named f.kind f.name ≡ true

fitting : (f : Filter) → Stands f → Fitting f
fitting f s =
    let a = and_parts (passes (filter_fault f.key f.kind f.name)) _ s.0 in
    let b = and_parts (nat_le 1 f.key.priority && nat_le 1 f.key.handle) _ a.1 in
    let c = and_parts (nat_le 1 f.key.priority) (nat_le 1 f.key.handle) b.0 in
    let d = and_parts (nat_le 1 (length f.kind) && nat_le (length f.kind) 15) _ b.1 in
    let e = first_none (interface_fault f.key.interface) _ (passed (filter_fault f.key f.kind f.name) a.0) in
    let g = first_none (name_fault f.kind) (optional_name_fault f.name) e.1 in
    record {
      interface = unfaulted_interface f.key.interface e.0;
      priority = leb-true 1 f.key.priority c.0;
      handle = leb-true 1 f.key.handle c.1;
      kind_free = unfaulted_text f.kind g.0;
      kind_short = name_short f.kind g.0;
      name = g.1;
      may = d.1;
    }

a_name : (kind : List ℕ) (name : Option (List ℕ)) → optional_name_fault name ≡ None → may_be_named kind name ≡ true → Named kind name
a_name kind None e m = tt
a_name kind (Some name) e m = ((bytes_eq-Decides kind bpf).0 m, unfaulted_text name e)

pub sound : (f : Filter) → Stands f → Sound f
sound f s =
    let t = fitting f s in
    record {
      priority = λ z. omega (arith, t.priority);
      handle = λ z. omega (arith, t.handle);
      kind = t.kind_free;
      name = a_name f.kind f.name t.name t.may;
    }

pub all_sound : (fs : List Filter) → AllByRecursion Stands fs → AllByRecursion Sound fs
all_sound [] s = tt
all_sound (f ∷ fs) s = (sound f s.0, all_sound fs s.1)

-- the key in a filter message
key_back : (k : Key) (r : List ℕ) → k.interface ≤ 2147483647 → KeyFits k → tcmsg_of (tcmsg_bytes (filter_header k) ++ r) ≡ filter_header k
key_back k r i f =
    tcmsg_back (filter_header k) r
    (omega arith, omega arith, omega arith, record { sfits = omega arith }, f.2, f.0, omega (arith, f.1))

names_key : (flags : ℕ) (f : Filter) → Stands f → NamesKey f.key (told flags f)
names_key flags f s =
    let e = key_back f.key (row_bytes (filter_row f.kind f.name)) (fitting f s).interface s.1 in
    record {
      kind = refl;
      long = omega arith;
      interface = ap (λ (h : Tcmsg). h.ifindex) e;
      parent = ap (λ (h : Tcmsg). h.parent) e;
      priority = ap (λ (h : Tcmsg). h.info / 65536) e ∙ div-mul-add f.key.priority 65536 768 (omega arith);
      handle = ap (λ (h : Tcmsg). h.handle) e;
    }

pub echoes : (flags : ℕ) (f : Filter) → (bit_and flags 2 == 2) ≡ false → Stands f → Echoes f.key (told flags f)
echoes flags f e s = record { names = names_key flags f s; single = e }

-- the row of a filter message
attribute_at : (a : Attribute) (r : List ℕ) → 4 + length a.payload < 2 ^ 16 → a.kind < 2 ^ 16 → AttributeAt (attribute_bytes a ++ r) a r
attribute_at a r l k =
    let n : ℕ = 4 + length a.payload in
    let z = replicate (fill n) 0 in
    record {
      header = bytes2 n ++ bytes2 a.kind;
      padding = z;
      bytes = ap (λ (y : List ℕ). (bytes2 n ++ bytes2 a.kind) ++ y) (append_assoc a.payload z r);
      four = refl;
      len = half_back n l;
      kind = half_back a.kind k;
      pads = length-replicate (fill n) 0;
    }

text_at : (kind : ℕ) (text r : List ℕ) → kind < 2 ^ 16 → length text ≤ 256 →
    AttributeAt (attribute_bytes (record { kind = kind; payload = closed text }) ++ r) (record { kind = kind; payload = closed text }) r
text_at kind text r k h = attribute_at (record { kind = kind; payload = closed text }) r (omega (arith, length-append text (0 ∷ []))) k

name_row_lem : (name : List ℕ) → length name ≤ 256 → Row (row_bytes (name_row name)) (name_row name)
name_row_lem name h = more (text_at 7 name [] (omega arith) h) none

options_row : (name : Option (List ℕ)) → optional_name_fault name ≡ None → Row (row_bytes (name_options name)) (name_options name)
options_row None e = none
options_row (Some name) e =
    more (attribute_at (record { kind = 2; payload = row_bytes (name_row name) }) [] (omega (arith, name_length name, name_short name e)) (omega arith)) none

filter_row_lem : (kind : List ℕ) (name : Option (List ℕ)) → length kind ≤ 256 → optional_name_fault name ≡ None → Row (row_bytes (filter_row kind name)) (filter_row kind name)
filter_row_lem kind name h e = more (text_at 1 kind (row_bytes (name_options name)) (omega arith) h) (options_row name e)

only_kind : (kind : List ℕ) (name : Option (List ℕ)) → payloads 1 (filter_row kind name) ≡ closed kind ∷ []
only_kind kind None = refl
only_kind kind (Some name) = refl

optioned : (f : Filter) (name : Option (List ℕ)) → f.name ≡ name → optional_name_fault name ≡ None → Optioned f (payloads 2 (filter_row f.kind name))
optioned f None e n = bare e
optioned f (Some name) e n =
    named e (record { row = name_row name; stands = name_row_lem name (name_short name n); only = refl })

pub lists : (f : Filter) → Stands f → Lists f (told 2 f)
lists f s =
    let t = fitting f s in
    record {
      names = names_key 2 f s;
      part = refl;
      row = filter_row f.kind f.name;
      stands = filter_row_lem f.kind f.name t.kind_short t.name;
      kind = only_kind f.kind f.name;
      options = optioned f f.name refl t.name;
    }

pub listed : (fs : List Filter) → AllByRecursion Stands fs → Listed fs (map (told 2) fs ++ (done ∷ []))
listed [] s = last ends
listed (f ∷ fs) s = next (lists f s.0) (listed fs s.1)
