use Rattle.std.proofs.Common.{◌≡◌, ◌+◌, ◌≤◌, true, false, ◌++◌, List, ℕ, length, nat_le, sym, ap, ◌∙◌}
use Rattle.capped.specs.Values.{values, room}
use Rattle.queue.specs.Cuts.{cut, total}
use Rattle.queue.proofs.Holding.{all, bulks, appended_sum, appended_cut, each_more, room_is, room_not, full, chosen, passed_by, places_left, up_to}
use Rattle.queue.proofs.queue.Queue.append.Goals as goal

pub returns-in_err-extend-clause-answer : goal.returns-in_err-extend-clause-answer
returns-in_err-extend-clause-answer c =
    let q = c.args.self.now in
    let r = c.args.other.now in
    let y = room_not (nat_le (length (values q.bytes) + length c.as_slice.result.now) 16384) c.in_err-extend.field-0.0 (sym c.extend.ensures.answer ∙ c.in_err-extend.was) in
    let x : nat_le (length (values q.bytes) + length (values r.bytes)) 16384 ≡ false = ap (λ (o : List ℕ). nat_le (length (values q.bytes) + length o) 16384) (sym c.as_slice.ensures) ∙ y in
    full c.from_residual.result c.from_residual.ensures.0 ∙ sym (ap room (bulks q r ∙ x))

pub returns-in_err-extend-clause-after : goal.returns-in_err-extend-clause-after
returns-in_err-extend-clause-after c =
    let q = c.args.self.now in
    let r = c.args.other.now in
    let y = room_not (nat_le (length (values q.bytes) + length c.as_slice.result.now) 16384) c.in_err-extend.field-0.0 (sym c.extend.ensures.answer ∙ c.in_err-extend.was) in
    let x : nat_le (length (values q.bytes) + length (values r.bytes)) 16384 ≡ false = ap (λ (o : List ℕ). nat_le (length (values q.bytes) + length o) 16384) (sym c.as_slice.ensures) ∙ y in
    ap (cut (values q.lens)) (c.extend.ensures.after ∙ passed_by _ _ _ y) ∙ sym (passed_by _ _ _ (bulks q r ∙ x))

pub invariant_of-self-2 : goal.invariant_of-self-2
invariant_of-self-2 c =
    let q = c.args.self.now in
    let r = c.args.other.now in
    let y = room_is (nat_le (length (values q.bytes) + length c.as_slice.result.now) 16384) (sym c.extend.ensures.answer ∙ c.in_ok-extend.was) in
    let x : nat_le (length (values q.bytes) + length (values r.bytes)) 16384 ≡ true = ap (λ (o : List ℕ). nat_le (length (values q.bytes) + length o) 16384) (sym c.as_slice.ensures) ∙ y in
    let b : values c.extend.new.self ≡ values q.bytes ++ values r.bytes = c.extend.ensures.after ∙ chosen _ _ _ y ∙ ap (λ (o : List ℕ). values q.bytes ++ o) c.as_slice.ensures in
    let l : length (values q.lens) + length c.as_slice-2.result.now ≤ 1024 = rw c.as_slice-2.ensures (places_left q r x) in
    let n : values c.extend-2.new.self ≡ values q.lens ++ values r.lens = c.extend-2.ensures.after ∙ chosen _ _ _ (up_to _ _ l) ∙ ap (λ (o : List ℕ). values q.lens ++ o) c.as_slice-2.ensures in
    record {
      sum = ap (λ (b : List ℕ). length b) b ∙ appended_sum (values q.lens) (values q.bytes) q.sum (values r.lens) (values r.bytes) r.sum ∙ ap (λ (n : List ℕ). total n) (sym n);
      each = rw n (each_more (values q.lens) (values r.lens) q.each (all r));
    }

pub returns-clause-answer : goal.returns-clause-answer
returns-clause-answer c =
    let q = c.args.self.now in
    let r = c.args.other.now in
    let y = room_is (nat_le (length (values q.bytes) + length c.as_slice.result.now) 16384) (sym c.extend.ensures.answer ∙ c.in_ok-extend.was) in
    let x : nat_le (length (values q.bytes) + length (values r.bytes)) 16384 ≡ true = ap (λ (o : List ℕ). nat_le (length (values q.bytes) + length o) 16384) (sym c.as_slice.ensures) ∙ y in
    let l : length (values q.lens) + length c.as_slice-2.result.now ≤ 1024 = rw c.as_slice-2.ensures (places_left q r x) in
    c.extend-2.ensures.answer ∙ ap room (up_to _ _ l ∙ sym (bulks q r ∙ x))

pub returns-clause-after : goal.returns-clause-after
returns-clause-after c =
    let q = c.args.self.now in
    let r = c.args.other.now in
    let y = room_is (nat_le (length (values q.bytes) + length c.as_slice.result.now) 16384) (sym c.extend.ensures.answer ∙ c.in_ok-extend.was) in
    let x : nat_le (length (values q.bytes) + length (values r.bytes)) 16384 ≡ true = ap (λ (o : List ℕ). nat_le (length (values q.bytes) + length o) 16384) (sym c.as_slice.ensures) ∙ y in
    let b : values c.extend.new.self ≡ values q.bytes ++ values r.bytes = c.extend.ensures.after ∙ chosen _ _ _ y ∙ ap (λ (o : List ℕ). values q.bytes ++ o) c.as_slice.ensures in
    let l : length (values q.lens) + length c.as_slice-2.result.now ≤ 1024 = rw c.as_slice-2.ensures (places_left q r x) in
    let n : values c.extend-2.new.self ≡ values q.lens ++ values r.lens = c.extend-2.ensures.after ∙ chosen _ _ _ (up_to _ _ l) ∙ ap (λ (o : List ℕ). values q.lens ++ o) c.as_slice-2.ensures in
    ap (cut (values c.extend-2.new.self)) b ∙ ap (λ (n : List ℕ). cut n (values q.bytes ++ values r.bytes)) n
    ∙ appended_cut (values q.lens) (values q.bytes) q.sum (values r.lens) (values r.bytes) r.sum ∙ sym (chosen _ _ _ (bulks q r ∙ x))
