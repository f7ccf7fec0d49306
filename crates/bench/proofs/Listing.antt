-- A listing, filter by filter. Assumes nothing.
use Rattle.std.proofs.Common.{◌≡◌, ℕ, ◌+◌, ◌<◌, ◌≤◌, Bool, true, false, cond, List, ◌∷◌, map, length, get_or, drop, fold, sym, refl, ap, ◌∙◌, arith}
use Rattle.std.proofs.lemmas.List.{at_drop_more, at_drop_all}
use Rattle.queue.specs.Cuts.{bulk, joined}
use Rattle.hosts.specs.Meaning.{Filter}
use Rattle.hosts.specs.Rules.{under}
use Rattle.filters.specs.Rows.{meaning}
use Rattle.filters.specs.declared.row.Row.{Row}
use Rattle.bench.specs.Replies.{told_bytes}
use Rattle.bench.specs.Serving.{is_under, listed_one}
use Rattle.bench.specs.Paging.{told_long, joined_bulk}

module _ (interface parent : ℕ) where
  -- what is listed of these filters, behind the datagrams ws
  abbrev pub onwards : List (List ℕ) → List Filter → List (List ℕ)
  onwards ws fs = fold joined ws (map (told_bytes 2) (under interface parent fs))

  one : (b : Bool) (f : Filter) (fs : List Filter) (ws : List (List ℕ)) →
      fold joined ws (map (told_bytes 2) (cond b (f ∷ fs) fs)) ≡ fold joined (cond b (joined ws (told_bytes 2 f)) ws) (map (told_bytes 2) fs)
  one true f fs ws = refl
  one false f fs ws = refl

  pub listed_more : (fs : List Filter) (i : ℕ) (f : Filter) (ws : List (List ℕ)) → i < length fs → f ≡ get_or fs i f → onwards ws (drop i fs) ≡ onwards (listed_one interface parent f ws) (drop (i + 1) fs)
  listed_more fs i f ws h e =
      at_drop_more (onwards ws) fs i f h ∙ ap (λ (g : Filter). onwards ws (g ∷ drop (i + 1) fs)) (sym e) ∙ one (is_under interface parent f) f (under interface parent (drop (i + 1) fs)) ws

  pub listed_all : (fs : List Filter) (i : ℕ) (ws : List (List ℕ)) → length fs ≤ i → onwards ws (drop i fs) ≡ ws
  listed_all fs i ws h = at_drop_all (onwards ws) fs i h

  pub listed_bulk : (r : Row) (ws : List (List ℕ)) → bulk (listed_one interface parent (meaning r) ws) ≤ bulk ws + 324
  listed_bulk r ws = by (is_under interface parent (meaning r))
    where
      by : (b : Bool) → bulk (cond b (joined ws (told_bytes 2 (meaning r))) ws) ≤ bulk ws + 324
      by true = omega (arith, joined_bulk ws (told_bytes 2 (meaning r)), (told_long 2 (meaning r) (r.ok, r.bounds)).1)
      by false = omega arith
