-- Replies are whole datagrams, whatever they are made of. Assumes nothing.
use Rattle.std.proofs.Common.{◌≡◌, ℕ, ◌^◌, ◌<◌, ◌≤◌, true, List, [], ◌∷◌, ◌++◌, ℤ, ap, ◌∙◌, arith}
use Rattle.std.specs.List.{AllByRecursion}
use Rattle.std.proofs.ByRecursion.{all_kept_by}
use Rattle.queue.specs.Cuts.{bulk, joined}
use Rattle.hosts.specs.Meaning.{Filter}
use Rattle.filters.specs.Fitting.{Stands}
use Rattle.bench.specs.Wholeness.{all_datagrams}
use Rattle.bench.specs.Replies.{told_bytes, answer_bytes}
use Rattle.bench.specs.Serving.{is_under, listing}
use Rattle.bench.specs.Paging.{cut_answer, cut_echo, cut_listing, cut_whole, told_long}

pub whole_answer : (q : List ℕ) (s : ℤ) (vs ws : List (List ℕ)) → vs ≡ [] → ws ≡ vs ++ (answer_bytes q s ∷ []) → all_datagrams ws ≡ true
whole_answer q s vs ws z e = ap (λ (x : List (List ℕ)). all_datagrams x) (e ∙ ap (λ (x : List (List ℕ)). x ++ (answer_bytes q s ∷ [])) z) ∙ cut_whole _ _ (cut_answer q s)

pub whole_echo : (flags : ℕ) (f : Filter) (q : List ℕ) (s : ℤ) (ws : List (List ℕ)) → flags < 2 ^ 16 → Stands f → ws ≡ told_bytes flags f ∷ answer_bytes q s ∷ [] → all_datagrams ws ≡ true
whole_echo flags f q s ws h st e = ap (λ (x : List (List ℕ)). all_datagrams x) e ∙ cut_whole _ _ (cut_echo flags f q s h st)

pub whole_listing : (i p : ℕ) (fs : List Filter) (ws : List (List ℕ)) → AllByRecursion Stands fs → ws ≡ listing i p fs → all_datagrams ws ≡ true
whole_listing i p fs ws a e = ap (λ (x : List (List ℕ)). all_datagrams x) e ∙ cut_whole _ _ (cut_listing _ (all_kept_by (is_under i p) Stands fs a))

pub echo_bulk : (flags : ℕ) (f : Filter) (vs ws : List (List ℕ)) → Stands f → vs ≡ [] → ws ≡ joined vs (told_bytes flags f) → bulk ws ≤ 16000
echo_bulk flags f vs ws s z e =
    let w : ws ≡ told_bytes flags f ∷ [] = e ∙ ap (λ (x : List (List ℕ)). joined x (told_bytes flags f)) z in
    omega (arith, ap bulk w, (told_long flags f s).1)
