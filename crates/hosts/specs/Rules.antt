-- The rules of a host: what each call may answer, and what it does to the filters that stand and the datagrams that wait.
use Rattle.std.specs.Prelude.{◌≡◌, ℕ, ◌≤◌, Bool, cond, not, ◌&&◌, List, [], ◌∷◌, ◌++◌, map, pos, negsuc, Some, Ok, Err, filter as kept_by, Option, ◌==◌, ◌≢◌}
use Rattle.records.specs.Layouts.{Message}
use Rattle.requests.specs.Asks.{Key, Program, Ask, set_xdp, add_clsact, attach, replace, remove, list}
use Rattle.requests.specs.Back.{Writes}
use Rattle.requests.specs.declared.mode.XdpMode.{XdpMode}
use Rattle.reader.specs.Cuts.{Cut}
use Rattle.hosts.specs.Events.{Event, opened, sent, received, datagram, failed}
use Rattle.hosts.specs.Meaning.{Filter, bpf, In, keys}
use Rattle.hosts.specs.Shapes.{Acknowledges, Refuses, Echoes, Lists, Heads, Done}

abbrev pub same_key : Key → Key → Bool
same_key k l =
    (k.interface == l.interface) && (k.parent == l.parent && (k.priority == l.priority && k.handle == l.handle))

-- the filters without that of this key
abbrev pub without : Key → List Filter → List Filter
without k = kept_by (λ f. not (same_key k f.key))

abbrev pub renamed : Key → List ℕ → Filter → Filter
renamed k name f = cond (same_key k f.key) (record { key = f.key; kind = f.kind; name = Some name }) f

-- those of this interface and parent
abbrev pub under : ℕ → ℕ → List Filter → List Filter
under interface parent = kept_by (λ f. (f.key.interface == interface) && f.key.parent == parent)

-- a number asked as 0 is the host's choice, which is not 0; any other is taken as asked
pub data Chosen : ℕ → ℕ → Type 0 where
  asked : {n : ℕ} → (n ≢ 0) → Chosen n n
  free : {n : ℕ} → (n ≢ 0) → Chosen 0 n

-- the key that an attach gets
pub record Grants (wanted : Key) (key : Key) : Type 0 where
  pub interface : key.interface ≡ wanted.interface
  pub parent : key.parent ≡ wanted.parent
  pub priority : Chosen wanted.priority key.priority
  pub handle : Chosen wanted.handle key.handle

-- the messages of a listing: each filter in order, heads perhaps between, and a DONE; one with a negative status may come sooner
pub data Listed : List Filter → List Message → Type 0 where
  ends : {m : Message} → Done (pos 0) m → Listed [] (m ∷ [])
  fails : {fs : List Filter} {m : Message} {n : ℕ} → Done (negsuc n) m → Listed fs (m ∷ [])
  head : {fs : List Filter} {m : Message} {ms : List Message} → Heads m → Listed fs ms → Listed fs (m ∷ ms)
  filter : {f : Filter} {fs : List Filter} {m : Message} {ms : List Message} → Lists f m → Listed fs ms → Listed (f ∷ fs) (m ∷ ms)

-- an accepted request: the messages of its reply, and the filters after
pub data Served (fs : List Filter) : Ask → List Message → List Filter → Type 0 where
  refused : {x : Ask} {m : Message} → Refuses m → Served fs x (m ∷ []) fs
  xdp : {i : ℕ} {d e : Option ℕ} {mode : XdpMode} {m : Message} → Acknowledges m → Served fs (set_xdp i d e mode) (m ∷ []) fs
  clsact : {i : ℕ} {m : Message} → Acknowledges m → Served fs (add_clsact i) (m ∷ []) fs
  attached : {wanted key : Key} {p : Program} {m n : Message} →
      Grants wanted key → (In key (keys fs) → ⊥) → Echoes key m → Acknowledges n →
      Served fs (attach wanted p) (m ∷ n ∷ []) (fs ++ (record { key = key; kind = bpf; name = Some p.name } ∷ []))
  replaced : (f : Filter) {p : Program} {m n : Message} →
      In f fs → f.kind ≡ bpf → Echoes f.key m → Acknowledges n →
      Served fs (replace f.key p) (m ∷ n ∷ []) (map (renamed f.key p.name) fs)
  removed : {key : Key} {m : Message} → In key (keys fs) → Acknowledges m → Served fs (remove key) (m ∷ []) (without key fs)
  listed : {i parent : ℕ} {ms : List Message} → Listed (under i parent fs) ms → Served fs (list i parent) ms fs

-- the bytes q are a request; its reply waits last, cut into datagrams in any way
pub record Accepts (fs : List Filter) (ws : List (List ℕ)) (q : List ℕ) (fs' : List Filter) (ws' : List (List ℕ)) : Type 0 where
  pub ask : Ask
  pub written : Writes ask q
  pub messages : List Message
  pub datagrams : List (List ℕ)
  pub served : Served fs ask messages fs'
  pub cut : Cut datagrams messages
  pub waits : ws' ≡ ws ++ datagrams

-- xs is what is left of ys where some are lost
pub data Within {A : Type 0} : List A → List A → Type 0 where
  none : Within [] []
  keep : {x : A} {xs ys : List A} → Within xs ys → Within (x ∷ xs) (x ∷ ys)
  lose : {y : A} {xs ys : List A} → Within xs ys → Within xs (y ∷ ys)

-- filters and waiting datagrams, before and after
abbrev pub Rule : List Filter → List (List ℕ) → Event → List Filter → List (List ℕ) → Type 0
Rule fs ws (opened (Ok u)) fs' ws' = (fs' ≡ fs) × (ws' ≡ [])
Rule fs ws (opened (Err e)) fs' ws' = (fs' ≡ fs) × (ws' ≡ ws)
Rule fs ws (sent q (Ok u)) fs' ws' = Accepts fs ws q fs' ws'
Rule fs ws (sent q (Err e)) fs' ws' = (fs' ≡ fs) × (ws' ≡ ws)
Rule fs ws (received n (datagram d)) fs' ws' = (4096 ≤ n) × (fs' ≡ fs) × (ws ≡ d ∷ ws')
Rule fs ws (received n (failed e)) fs' ws' = (fs' ≡ fs) × Within ws' ws
