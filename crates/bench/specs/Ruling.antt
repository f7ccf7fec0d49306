-- The bench host keeps the rules. Assumes nothing.
use Rattle.std.specs.Prelude.{◌≡◌, ℕ, ◌^◌, ◌<◌, ◌≤◌, Bool, true, false, cond, ◌&&◌, ◌||◌, List, [], ◌∷◌, ◌++◌, map, length, drop, ℤ, pos, negsuc, None, Ok, Err, Option, ◌==◌, ◌≢◌, nat_le, refl}
use Rattle.std.proofs.Common.{sym, ap, subst, ◌∙◌, inl, inr, arith}
use Rattle.std.specs.List.{AllByRecursion, range_with_len}
use Rattle.std.specs.Str.{bytes_eq}
use Rattle.std.proofs.ByRecursion.{all_kept_by}
use Rattle.std.proofs.lemmas.Slice.Eq.{bytes_eq-Decides}
use Rattle.std.proofs.lemmas.List.FromFn.{length-range_with_len}
use Rattle.std.proofs.lemmas.List.Sums.{prefix_len-le-length}
use Rattle.std.proofs.lemmas.Bool.{leb-true}
use Rattle.std.proofs.lemmas.Bool.Decides.{nat_tests}
use Rattle.records.specs.Layouts.{Message}
use Rattle.requests.specs.Asks.{Key, Program, Ask, set_xdp, add_clsact, attach, replace, remove, list}
use Rattle.requests.specs.Back.{Writes, KeyFits}
use Rattle.requests.specs.Refusals.{name_fault}
use Rattle.requests.specs.declared.fault.ArgumentFault.{ArgumentFault}
use Rattle.reader.specs.Cuts.{Cut}
use Rattle.hosts.specs.Events.{Answer, Event, opened, sent, received, Got, datagram, failed}
use Rattle.hosts.specs.Meaning.{Filter, bpf, In, keys, Meant}
use Rattle.hosts.specs.Shapes.{Echoes}
use Rattle.hosts.specs.Rules.{same_key, under, renamed, without, Chosen, asked, free, Grants, Served, refused, xdp, clsact, attached, replaced, removed, listed as listing_served, Accepts, Within, none, lose, Rule}
use Rattle.filters.specs.Fitting.{passes, Stands}
use Rattle.filters.specs.declared.refusal.Refusal.TheVariants.{NoEntry, Exists, Invalid, NoSpace}
use Rattle.filters.specs.Keys.{taken, distinct, is_bpf, with_handle, lowest_free}
use Rattle.hosts.specs.Losses.{within_refl}
use Rattle.keyed.proofs.Keyed.{same_key_lem, clash, untaken_without}
use Rattle.bench.specs.Replies.{told, answer, done}
use Rattle.bench.specs.Wholeness.{all_datagrams}
use Rattle.bench.specs.Serving.{Outcome, answered, prioritized, granted, named, attaching, replacing, status_of, served, is_under}
use Rattle.bench.specs.Calls.{State, state, fits, Replied, Sends, stranger, request, came, rest, first, Calls}
use Rattle.bench.specs.Shaping.{acknowledges, refuses, echoes, listed, all_sound}
use Rattle.bench.specs.Paging.{cut_answer, cut_echo, cut_listing, whole_all, apart, in_taken}
use Rattle.bench.specs.Granting.{granted_stands, held_stands}
use Rattle.bench.specs.Asked.{attach_fault, replace_fault}

-- what a host's lists always are
pub meant : (fs : List Filter) (ws : List (List ℕ)) → AllByRecursion Stands fs → distinct fs ≡ true → all_datagrams ws ≡ true → Meant fs ws
meant fs ws a d w = record { sound = all_sound fs a; apart = apart fs d; waits = whole_all ws w }

-- finding a filter by its key
taken_in : (k : Key) (fs : List Filter) → taken k fs ≡ true → In k (keys fs)
taken_in k [] t = clash false t refl
taken_in k (f ∷ fs) t = by (same_key k f.key) refl t (taken_in k fs)
  where
    by : (b : Bool) → same_key k f.key ≡ b → (b || taken k fs) ≡ true → (taken k fs ≡ true → In k (keys fs)) → In k (keys (f ∷ fs))
    by true e t more = inl (same_key_lem k f.key e)
    by false e t more = inr (more t)

record Found (k : Key) (fs : List Filter) : Type 0 where
  filter : Filter
  among : In filter fs
  kind : filter.kind ≡ bpf
  key : k ≡ filter.key

same_kind : (f : Filter) → bytes_eq f.kind bpf ≡ true → f.kind ≡ bpf
same_kind f e = (bytes_eq-Decides f.kind bpf).0 e

bpf_found : (k : Key) (fs : List Filter) → is_bpf k fs ≡ true → Found k fs
bpf_found k [] t = clash false t refl
bpf_found k (f ∷ fs) t = by (same_key k f.key) refl (bytes_eq f.kind bpf) refl t (bpf_found k fs)
  where
    later : Found k fs → Found k (f ∷ fs)
    later x = record { filter = x.filter; among = inr x.among; kind = x.kind; key = x.key }

    by : (b : Bool) → same_key k f.key ≡ b → (c : Bool) → bytes_eq f.kind bpf ≡ c → ((b && c) || is_bpf k fs) ≡ true → (is_bpf k fs ≡ true → Found k fs) → Found k (f ∷ fs)
    by true e true d t more = record { filter = f; among = inl refl; kind = same_kind f d; key = same_key_lem k f.key e }
    by true e false d t more = later (more t)
    by false e c d t more = later (more t)

-- the key that is granted
few : (k : Key) (fs : List Filter) → lowest_free k fs ≤ 33
few k fs = omega (arith, prefix_len-le-length (λ h. taken (with_handle k h) fs) (range_with_len 1 32), length-range_with_len 1 32)

chosen : (n m : ℕ) → (m ≢ 0) → Chosen n (cond (n == 0) m n)
chosen n m z = by (n == 0) refl
  where
    by : (b : Bool) → (n == 0) ≡ b → Chosen n (cond b m n)
    by true e = let q : n ≡ 0 = grind (arith, nat_tests) in subst (λ (x : ℕ). Chosen x m) (sym q) (free z)
    by false e = asked (λ q. clash (n == 0) (grind (arith, nat_tests)) e)

module _ (k : Key) (fs : List Filter) where
  grants : Grants k (granted k fs)
  grants = by (k.handle == 0) refl
    where
      by : (b : Bool) → (k.handle == 0) ≡ b → Grants k (cond b (with_handle (prioritized k) (lowest_free (prioritized k) fs)) (prioritized k))
      by true e = record {
        interface = refl;
        parent = refl;
        priority = chosen k.priority 49152 (λ z. omega arith);
        handle = let q : k.handle ≡ 0 = grind (arith, nat_tests) in subst (λ (x : ℕ). Chosen x (lowest_free (prioritized k) fs)) (sym q) (free (λ z. omega arith));
      }
      by false e = record {
        interface = refl;
        parent = refl;
        priority = chosen k.priority 49152 (λ z. omega arith);
        handle = asked (λ q. clash (k.handle == 0) (grind (arith, nat_tests)) e);
      }

  priority_fits : k.priority < 2 ^ 16 → cond (k.priority == 0) 49152 k.priority < 2 ^ 16
  priority_fits h = by (k.priority == 0)
    where
      by : (b : Bool) → cond b 49152 k.priority < 2 ^ 16
      by true = omega arith
      by false = h

  granted_fits : KeyFits k → KeyFits (granted k fs)
  granted_fits h = by (k.handle == 0)
    where
      by : (b : Bool) → KeyFits (cond b (with_handle (prioritized k) (lowest_free (prioritized k) fs)) (prioritized k))
      by true = (h.0, priority_fits h.1, omega (arith, few (prioritized k) fs))
      by false = (h.0, priority_fits h.1, h.2)

-- what a request comes to is what the rules allow
record Serves (fs : List Filter) (q : List ℕ) (x : Ask) (o : Outcome) : Type 0 where
  messages : List Message
  effect : Served fs x messages o.filters
  cut : Cut o.reply messages

refusing : (fs : List Filter) (q : List ℕ) (x : Ask) (n : ℕ) → n < 4095 → Serves fs q x (answered q (negsuc n) fs)
refusing fs q x n h = record { messages = answer q (negsuc n) ∷ []; effect = refused (refuses q n h); cut = cut_answer q (negsuc n) }

module _ (fs : List Filter) (q : List ℕ) (a : AllByRecursion Stands fs) where
  serves_attach : (k : Key) (p : Program) → Writes (attach k p) q → Serves fs q (attach k p) (served fs q (attach k p))
  serves_attach k p w = by (taken g fs) refl (nat_le 32 (length fs)) refl
    where
      g : Key
      g = granted k fs

      f : Filter
      f = named g p.name

      stands : Stands f
      stands = (granted_stands k fs p.name (attach_fault (attach k p) k p q refl w), granted_fits k fs w.fits.0)

      by : (b : Bool) → taken g fs ≡ b → (c : Bool) → nat_le 32 (length fs) ≡ c → Serves fs q (attach k p) (attaching (cond b (Err Exists) (cond c (Err NoSpace) (Ok tt))) f q fs)
      by true t c l = refusing fs q (attach k p) 16 (omega arith)
      by false t true l = refusing fs q (attach k p) 27 (omega arith)
      by false t false l = record {
        messages = told 0x060D f ∷ answer q (pos 0) ∷ [];
        effect = attached (grants k fs) (λ i. clash (taken g fs) (in_taken g fs i) t) (echoes 0x060D f refl stands) (acknowledges q);
        cut = cut_echo 0x060D f q (pos 0) (omega arith) stands;
      }

  serves_replace : (k : Key) (p : Program) → Writes (replace k p) q → Serves fs q (replace k p) (served fs q (replace k p))
  serves_replace k p w =
      subst (λ (x : Option ArgumentFault). Serves fs q (replace k p) (replacing (cond (passes x) (cond (is_bpf k fs) (Ok tt) (Err NoEntry)) (Err Invalid)) k p.name q fs)) (sym name)
      (by (is_bpf k fs) refl)
    where
      name : name_fault p.name ≡ None
      name = replace_fault (replace k p) k p q refl w

      there : is_bpf k fs ≡ true → Serves fs q (replace k p) (replacing (Ok tt) k p.name q fs)
      there b =
          let x = bpf_found k fs b in
          let f = named k p.name in
          let stands : Stands f = (held_stands k fs p.name a b name, w.fits.0) in
          let e : Echoes x.filter.key (told 0x000D f) = subst (λ (y : Key). Echoes y (told 0x000D f)) x.key (echoes 0x000D f refl stands) in
          record {
            messages = told 0x000D f ∷ answer q (pos 0) ∷ [];
            effect = subst (λ (y : Key). Served fs (replace y p) (told 0x000D f ∷ answer q (pos 0) ∷ []) (map (renamed y p.name) fs)) (sym x.key)
                (replaced x.filter x.among x.kind e (acknowledges q));
            cut = cut_echo 0x000D f q (pos 0) (omega arith) stands;
          }

      by : (b : Bool) → is_bpf k fs ≡ b → Serves fs q (replace k p) (replacing (cond b (Ok tt) (Err NoEntry)) k p.name q fs)
      by true b = there b
      by false b = refusing fs q (replace k p) 1 (omega arith)

  serves_remove : (k : Key) → Serves fs q (remove k) (served fs q (remove k))
  serves_remove k = by (taken k fs) refl
    where
      by : (b : Bool) → taken k fs ≡ b → Serves fs q (remove k) (answered q (status_of (cond b (Ok tt) (Err NoEntry))) (without k fs))
      by true t = record { messages = answer q (pos 0) ∷ []; effect = removed (taken_in k fs t) (acknowledges q); cut = cut_answer q (pos 0) }
      by false t =
          record {
            messages = answer q (negsuc 1) ∷ [];
            effect = subst (λ (x : List Filter). Served fs (remove k) (answer q (negsuc 1) ∷ []) x) (sym (untaken_without (λ (f : Filter). f.key) k fs t)) (refused (refuses q 1 (omega arith)));
            cut = cut_answer q (negsuc 1);
          }

  serves : (x : Ask) → Writes x q → Serves fs q x (served fs q x)
  serves (set_xdp i d e m) w = record { messages = answer q (pos 0) ∷ []; effect = xdp (acknowledges q); cut = cut_answer q (pos 0) }
  serves (add_clsact i) w = record { messages = answer q (pos 0) ∷ []; effect = clsact (acknowledges q); cut = cut_answer q (pos 0) }
  serves (attach k p) w = serves_attach k p w
  serves (replace k p) w = serves_replace k p w
  serves (remove k) w = serves_remove k
  serves (list i p) w =
      let all = all_kept_by (is_under i p) Stands fs a in
      record { messages = map (told 2) (under i p fs) ++ (done ∷ []); effect = listing_served (listed (under i p fs) all); cut = cut_listing (under i p fs) all }

-- the calls
abbrev Kept : State → State → Type 0
Kept s t = (t.filters ≡ s.filters) × (t.waiting ≡ s.waiting)

same_state : (s t : State) → t ≡ s → Kept s t
same_state s t e = (ap (λ (x : State). x.filters) e, ap (λ (x : State). x.waiting) e)

ok_not_err : {X : Type 0} {e : ℤ} {u : Unit {0}} → ◌≡◌ {A = Answer} (Ok u) (Err e) → X
ok_not_err p = let z : ◌≡◌ {A = ℕ} 0 1 = cc in absurd (omega arith)

err_not_ok : {X : Type 0} {e : ℤ} {u : Unit {0}} → ◌≡◌ {A = Answer} (Err e) (Ok u) → X
err_not_ok p = let z : ◌≡◌ {A = ℕ} 0 1 = cc in absurd (omega arith)

module _ (s t : State) (a : AllByRecursion Stands s.filters) where
  open_rule : (r : Answer) → Calls s (opened r) t → Rule s.filters s.waiting (opened r) t.filters t.waiting
  open_rule (Ok u) c = (ap (λ (x : State). x.filters) c.1, ap (λ (x : State). x.waiting) c.1)
  open_rule (Err e) c = err_not_ok c.0

  accepts : (q : List ℕ) (x : Ask) → Writes x q → t ≡ state (served s.filters q x).filters (s.waiting ++ (served s.filters q x).reply) →
      Accepts s.filters s.waiting q t.filters t.waiting
  accepts q x w e =
      let v = serves s.filters q a x w in
      record {
        ask = x;
        written = w;
        messages = v.messages;
        datagrams = (served s.filters q x).reply;
        served = subst (λ (fs : List Filter). Served s.filters x v.messages fs) (sym (ap (λ (y : State). y.filters) e)) v.effect;
        cut = v.cut;
        waits = ap (λ (y : State). y.waiting) e;
      }

  send_rule : (q : List ℕ) (r : Answer) → Sends s q r t → Rule s.filters s.waiting (sent q r) t.filters t.waiting
  send_rule q (Ok u) (stranger n e k) = ok_not_err e
  send_rule q (Err e) (stranger n d k) = same_state s t k
  send_rule q r (request {x} w p) = by (fits s.waiting (served s.filters q x).reply) refl r p
    where
      o : Outcome
      o = served s.filters q x

      by : (b : Bool) → fits s.waiting o.reply ≡ b → (r : Answer) → Replied o s r t → Rule s.filters s.waiting (sent q r) t.filters t.waiting
      by true f (Ok u) c = accepts q x w (c.1 ∙ ap (λ (y : Bool). cond y (state o.filters (s.waiting ++ o.reply)) s) f)
      by true f (Err e) c = err_not_ok (c.0 ∙ ap (λ (y : Bool). cond {A = Answer} y (Ok tt) (Err (pos 105))) f)
      by false f (Ok u) c = ok_not_err (c.0 ∙ ap (λ (y : Bool). cond {A = Answer} y (Ok tt) (Err (pos 105))) f)
      by false f (Err e) c = same_state s t (c.1 ∙ ap (λ (y : Bool). cond y (state o.filters (s.waiting ++ o.reply)) s) f)

-- a receive
within_rest : (n : ℕ) (ws : List (List ℕ)) → Within (rest n ws) ws
within_rest n ws = by (nat_le 4096 n) ws
  where
    by : (b : Bool) (ws : List (List ℕ)) → Within (cond b (drop 1 ws) ws) ws
    by true [] = none
    by true (w ∷ ws) = lose (within_refl ws)
    by false ws = within_refl ws

first_there : (n : ℕ) (ws ws' : List (List ℕ)) (d : List ℕ) → datagram d ≡ came n ws → ws' ≡ rest n ws → (4096 ≤ n) × (ws ≡ d ∷ ws')
first_there n ws ws' d e r = by (nat_le 4096 n) refl ws e r
  where
    by : (b : Bool) → nat_le 4096 n ≡ b → (ws : List (List ℕ)) → datagram d ≡ cond b (first ws) (failed (pos 22)) → ws' ≡ cond b (drop 1 ws) ws → (4096 ≤ n) × (ws ≡ d ∷ ws')
    by true l [] e r = let z : ◌≡◌ {A = ℕ} 0 1 = cc in absurd (omega arith)
    by true l (w ∷ ws) e r = (leb-true 4096 n l, let q : d ≡ w = cc in ap (λ (x : List ℕ). x ∷ ws) (sym q) ∙ ap (λ (x : List (List ℕ)). d ∷ x) (sym r))
    by false l ws e r = let z : ◌≡◌ {A = ℕ} 0 1 = cc in absurd (omega arith)

receive_rule : (s t : State) (n : ℕ) (g : Got) → Calls s (received n g) t → Rule s.filters s.waiting (received n g) t.filters t.waiting
receive_rule s t n (datagram d) c =
    let x = first_there n s.waiting t.waiting d c.0 (ap (λ (y : State). y.waiting) c.1) in
    (x.0, ap (λ (y : State). y.filters) c.1, x.1)
receive_rule s t n (failed e) c =
    (ap (λ (y : State). y.filters) c.1, subst (λ (x : List (List ℕ)). Within x s.waiting) (sym (ap (λ (y : State). y.waiting) c.1)) (within_rest n s.waiting))

pub rules : (s t : State) (e : Event) → AllByRecursion Stands s.filters → Calls s e t → Rule s.filters s.waiting e t.filters t.waiting
rules s t (opened r) a c = open_rule s t a r c
rules s t (sent q r) a c = send_rule s t a q r c
rules s t (received n g) a c = receive_rule s t n g c
