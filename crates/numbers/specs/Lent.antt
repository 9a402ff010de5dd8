-- A list of which a part is lent and comes back: `&mut x[0..h]` and `&mut x[h..]`, in the words of `take` and `drop`.
use Rattle.std.specs.Prelude.{◌≡◌, List, ◌++◌, ℕ, ◌-◌, length, take, drop}
use Rattle.std.proofs.Common.{ap, ◌∙◌, append-nil, arith, length-drop, drop_of_length-le, take_all, take_at}
use Rattle.std.proofs.Math.Nat.{sub-zero}
use borrow.Rule.Slice.PartMut.{mid_of, put_mid}

module _ {A : Type 0} (h : ℕ) (x : List A) where
  pub lent_to : mid_of 0 (h - 0) x ≡ take h x
  lent_to = rw sub-zero

  pub back_to : (q : List A) → put_mid 0 (h - 0) x q ≡ q ++ drop h x
  back_to q = rw sub-zero

  pub lent_from : mid_of h (length x - h) x ≡ drop h x
  lent_from = take_all (length x - h) (drop h x) (simp length-drop (omega arith))

  pub back_from : (q : List A) → put_mid h (length x - h) x q ≡ take h x ++ q
  back_from q =
      let none = drop_of_length-le (drop h x) {i = length x - h} (simp length-drop (omega arith)) in
      ap (λ (l : List A). take h x ++ l) (ap (λ (l : List A). q ++ l) none ∙ append-nil q)

  -- what came back from a front is read again
  pub lent_again : (q : List A) → length q ≡ h → mid_of 0 (h - 0) (put_mid 0 (h - 0) x q) ≡ q
  lent_again q e = rw sub-zero (take_at q (drop h x) h e)
