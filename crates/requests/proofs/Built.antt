-- The pieces that a builder writes are its message. Assumes nothing.
use Rattle.std.proofs.Common.{◌≡◌, ℕ, ◌+◌, ◌≤◌, List, [], ◌++◌, length, drop, ℤ, Some, None, Ok, Err, Option, Result, sym, refl, ap, ◌∙◌, arith, w32, of_z}
use Rattle.std.specs.Option.{option_map}
use Rattle.std.proofs.lemmas.Bool.Decides.{nat_tests}
use Rattle.records.specs.Words.{bytes2, bytes4}
use Rattle.records.specs.Fields.{ifinfomsg_bytes}
use Rattle.records.specs.declared.ifinfomsg.Ifinfomsg.{Ifinfomsg}
use Rattle.requests.specs.declared.fault.ArgumentFault.{ArgumentFault}
use Rattle.requests.specs.Table.{optional}
use Rattle.requests.specs.Bytes.{attribute_bytes, row_bytes, optional_length}
use Rattle.requests.specs.Builders.{link_bytes}
use Rattle.requests.specs.Refusals.{checked, room_fault, unless, written, buffer, Written}
use Rattle.requests.specs.Writing.{Begun, Puts}
use Rattle.requests.proofs.Putting.{puts_both, puts_same}

-- checks that were passed
pub passed : (f : Option ArgumentFault) (u : Unit) → Ok u ≡ checked f → f ≡ None
passed None u e = refl
passed (Some x) u e = let z : ◌≡◌ {A = ℕ} 0 1 = cc in absurd (omega arith)

pub room_passed : (size k : ℕ) (u : Unit) → Ok u ≡ checked (room_fault size k) → k ≤ size
room_passed size k u e = let f = passed (room_fault size k) u e in grind (arith, nat_tests)

-- all was written, from the front, after a check that was passed
module _ (fault : Option ArgumentFault) (ok : fault ≡ None) (bs out last : List ℕ) (n : ℕ) (p : Puts out last 0 n bs) where
  whole : Begun last bs n out
  whole = p [] out (record { len = refl; is = refl })

  pub done : n ≤ length out → Written fault bs (Ok n) out last
  done h =
      let l = whole.len in
      let t : room_fault (length out) (length bs) ≡ None = grind (arith, nat_tests) in
      record {
        result = ap Ok (sym l) ∙ sym (ap (λ (f : Option ArgumentFault). unless f (length bs)) t) ∙ sym (ap (λ (f : Option ArgumentFault). written f bs (length out)) ok);
        after = whole.is;
      }

-- the same once the writer is gone
pub ends : (fault : Option ArgumentFault) (bs out last end : List ℕ) (n k : ℕ) → end ≡ last → k ≡ n → Written fault bs (Ok n) out last → Written fault bs (Ok k) out end
ends fault bs out last end n k e l p =
    record { result = ap Ok l ∙ p.result; after = e ∙ p.after ∙ ap (λ (m : ℕ). bs ++ drop m out) (sym l) }

-- there was too little room, and r is the answer
pub short_exit : (fault : Option ArgumentFault) → fault ≡ None → (r : Result ℕ ArgumentFault) (bs out : List ℕ) (k : ℕ) (e d : ArgumentFault) → r ≡ Err d → d ≡ e → length bs ≡ k →
    Err e ≡ checked (room_fault (length out) k) → Written fault bs r out out
short_exit fault ok r bs out k e d q s l c =
    record {
      result =
          q ∙ ap Err s ∙ at (room_fault (length out) k) c ∙ ap (λ (z : ℕ). unless (room_fault (length out) z) z) (sym l)
          ∙ sym (ap (λ (f : Option ArgumentFault). written f bs (length out)) ok);
      after = sym (ap (λ (x : Result ℕ ArgumentFault). buffer x bs out) q);
    }
  where
    at : (f : Option ArgumentFault) → Err e ≡ checked f → ◌≡◌ {A = Result ℕ ArgumentFault} (Err e) (unless f k)
    at None h = let z : ◌≡◌ {A = ℕ} 0 1 = cc in absurd (omega arith)
    at (Some x) h = cc

-- an interface and its XDP program
pub link_length : (flags : ℕ) (family : Ifinfomsg) (fd : ℤ) (xf : ℕ) (ex : Option ℤ) → length (link_bytes flags family fd xf ex) ≡ 52 + optional_length ex
unfolding link_bytes
link_length flags family fd xf None = refl
link_length flags family fd xf (Some e) = refl

link_pieces : ℕ → ℕ → ℕ → Ifinfomsg → ℕ → ℕ → Option ℕ → List ℕ
link_pieces len nest flags family fd xf ex =
    (bytes4 len ++ (bytes2 19 ++ (bytes2 flags ++ (bytes4 1 ++ (bytes4 0 ++ ifinfomsg_bytes family)))))
    ++ ((bytes2 nest ++ bytes2 32811)
    ++ (attribute_bytes (record { kind = 1; payload = bytes4 fd })
    ++ (attribute_bytes (record { kind = 3; payload = bytes4 xf }) ++ row_bytes (optional 8 (option_map bytes4 ex)))))

link_pieces_lem : (flags : ℕ) (family : Ifinfomsg) (fd : ℤ) (xf : ℕ) (ex : Option ℤ) →
    link_pieces (52 + optional_length ex) (20 + optional_length ex) flags family (of_z w32 fd) xf (option_map (of_z w32) ex) ≡ link_bytes flags family fd xf ex
unfolding link_bytes link_pieces
link_pieces_lem flags family fd xf None = refl
link_pieces_lem flags family fd xf (Some e) = refl

pub link_puts : (o0 o1 o2 o3 o4 o5 : List ℕ) (i1 i2 i3 i4 i5 : ℕ) (flags : ℕ) (family : Ifinfomsg) (fd : ℤ) (xf : ℕ) (ex : Option ℤ) (len nest w : ℕ) (word : Option ℕ) →
    word ≡ option_map (of_z w32) ex → nest ≡ 20 + optional_length ex → len ≡ 32 + nest → w ≡ of_z w32 fd →
    Puts o0 o1 0 i1 (bytes4 len ++ (bytes2 19 ++ (bytes2 flags ++ (bytes4 1 ++ (bytes4 0 ++ ifinfomsg_bytes family))))) →
    Puts o1 o2 i1 i2 (bytes2 nest ++ bytes2 32811) →
    Puts o2 o3 i2 i3 (attribute_bytes (record { kind = 1; payload = bytes4 w })) →
    Puts o3 o4 i3 i4 (attribute_bytes (record { kind = 3; payload = bytes4 xf })) →
    Puts o4 o5 i4 i5 (row_bytes (optional 8 (option_map bytes4 word))) →
    Puts o0 o5 0 i5 (link_bytes flags family fd xf ex)
unfolding link_pieces
link_puts o0 o1 o2 o3 o4 o5 i1 i2 i3 i4 i5 flags family fd xf ex len nest w word a n c d p1 p2 p3 p4 p5 =
    let l : len ≡ 52 + optional_length ex = omega arith in
    puts_same o0 o5 (link_pieces len nest flags family w xf word) (link_bytes flags family fd xf ex) 0 i5
    (ap (λ (z : ℕ). link_pieces z nest flags family w xf word) l
    ∙ ap (λ (z : ℕ). link_pieces (52 + optional_length ex) z flags family w xf word) n
    ∙ ap (λ (z : ℕ). link_pieces (52 + optional_length ex) (20 + optional_length ex) flags family z xf word) d
    ∙ ap (λ (z : Option ℕ). link_pieces (52 + optional_length ex) (20 + optional_length ex) flags family (of_z w32 fd) xf z) a
    ∙ link_pieces_lem flags family fd xf ex)
    (puts_both o0 o1 o5 _ _ 0 i1 i5 p1 (puts_both o1 o2 o5 _ _ i1 i2 i5 p2 (puts_both o2 o3 o5 _ _ i2 i3 i5 p3 (puts_both o3 o4 o5 _ _ i3 i4 i5 p4 p5))))
