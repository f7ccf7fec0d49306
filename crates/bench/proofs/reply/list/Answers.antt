use Rattle.std.proofs.Common.{◌≡◌, ℕ, Bool, cond, ◌+◌, ◌<◌, ◌≤◌, List, [], ◌∷◌, ◌++◌, length, get_or, drop, sym, ap, ◌∙◌, arith}
use Rattle.std.proofs.lemmas.List.{length-map, get_or-map}
use Rattle.requests.specs.Handles.{bits_of}
use Rattle.queue.specs.Cuts.{bulk, joined}
use Rattle.queue.specs.Waiting.{waiting}
use Rattle.hosts.specs.Meaning.{Filter}
use Rattle.filters.specs.Held.{held}
use Rattle.filters.specs.Rows.{meaning}
use Rattle.filters.proofs.Finding.{held_short}
use Rattle.bench.specs.Replies.{told_bytes, done_bytes}
use Rattle.bench.specs.Serving.{listed_one}
use Rattle.bench.proofs.Listing.{onwards, listed_more, listed_all, listed_bulk}
use Rattle.bench.proofs.Replying.{done_room}
use Rattle.bench.proofs.reply.list.Goals as goal
use Rattle.bench.proofs.reply.list.Goals.{then-is_under, else-is_under}

pub loop-row-init : goal.loop-row-init
loop-row-init c = (
  ap (λ (ws : List (List ℕ)). onwards c.args.hook.interface (bits_of c.args.hook.parent) ws (held c.args.filters.now)) c.new-reply.ensures,
  omega (arith, ap bulk c.new-reply.ensures),
)

pub put_row-requires : goal.put_row-requires
put_row-requires c =
    let rows = c.rows-row-items.result.now in
    omega (arith, c.loop-row.invariant.1, c.loop-row-test.true, length-map rows meaning, ap (λ (fs : List Filter). length fs) c.rows-row-items.ensures, held_short c.args.filters.now)

pub loop-row-preserved : goal.loop-row-preserved
loop-row-preserved c =
    let fs = held c.args.filters.now in
    let rows = c.rows-row-items.result.now in
    let a = c.args.hook.interface in
    let p = bits_of c.args.hook.parent in
    let i = c.loop-row.row-index in
    let ws = waiting c.loop-row.reply in
    let row = c.row-item.result in
    let f = meaning row in
    let n : length rows ≡ length fs = sym (length-map rows meaning) ∙ ap (λ (fs : List Filter). length fs) c.rows-row-items.ensures in
    let h : i < length fs = omega (arith, c.loop-row-test.true, n) in
    let is : f ≡ get_or fs i f =
    ap meaning c.row-item.is ∙ sym (get_or-map meaning rows i row f c.loop-row-test.true) ∙ ap (λ (fs : List Filter). get_or fs i f) c.rows-row-items.ensures in
    let e : waiting c.if-is_under.reply ≡ listed_one a p f ws = elim c.if-is_under.branch [
      | then-is_under w ↦ ap waiting w.reply-is ∙ w.put_row.ensures ∙ sym (ap (λ (b : Bool). cond b (joined ws (told_bytes 2 f)) ws) (sym c.is_under.ensures ∙ w.if-is_under.true))
      | else-is_under w ↦ ap waiting w.reply-is ∙ sym (ap (λ (b : Bool). cond b (joined ws (told_bytes 2 f)) ws) (sym c.is_under.ensures ∙ w.if-is_under.false))
    ] in (
      ap (λ (vs : List (List ℕ)). onwards a p vs (drop (i + 1) fs)) e ∙ sym (listed_more a p fs i f ws h is) ∙ c.loop-row.invariant.0,
      omega (arith, ap bulk e, listed_bulk a p row ws, c.loop-row.invariant.1),
    )

pub put_alone-requires : goal.put_alone-requires
put_alone-requires c =
    let rows = c.rows-row-items.result.now in
    let l = ap (λ (d : List ℕ). length d) c.done.ensures in (
      omega (arith, l, done_room.0),
      (
        omega (arith, l, done_room.1),
        omega (
          arith,
          c.loop-row.invariant.1,
          c.loop-row.auto.row-index-end,
          length-map rows meaning,
          ap (λ (fs : List Filter). length fs) c.rows-row-items.ensures,
          held_short c.args.filters.now,
        ),
      ),
    )

pub returns : goal.returns
returns c =
    let fs = held c.args.filters.now in
    let rows = c.rows-row-items.result.now in
    let a = c.args.hook.interface in
    let p = bits_of c.args.hook.parent in
    let ws = waiting c.loop-row.reply in
    let n : length rows ≡ length fs = sym (length-map rows meaning) ∙ ap (λ (fs : List Filter). length fs) c.rows-row-items.ensures in
    let h : length fs ≤ c.loop-row.row-index = omega (arith, c.loop-row-test.false, n) in
    c.put_alone.ensures ∙ ap (λ (d : List ℕ). ws ++ (d ∷ [])) c.done.ensures
    ∙ ap (λ (ws : List (List ℕ)). ws ++ (done_bytes ∷ [])) (sym (listed_all a p fs c.loop-row.row-index ws h) ∙ c.loop-row.invariant.0)
