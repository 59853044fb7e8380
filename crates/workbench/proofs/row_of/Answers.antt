use Rattle.std.proofs.Common.{◌≡◌, ℕ, zero, suc, ◌-◌, [], ◌++◌, take, replicate, refl, ap, ◌∙◌, arith}
use Rattle.workbench.proofs.row_of.Goals as goal

take_none : {X : Type 0} (n : ℕ) → take {A = X} n [] ≡ []
take_none zero = refl
take_none (suc n) = refl

pub returns : goal.returns
returns g c =
    let n = c.args.count in
    let x = c.args.value in
    let e : n - 0 ≡ n = omega arith in
    c.in_ok-resize.ensures.items
    ∙ (λ i. take n (c.new-row.ensures.items i) ++ replicate (n - c.new-row.ensures.len i) x)
    ∙ ap (λ xs. xs ++ replicate (n - 0) x) (take_none n)
    ∙ ap (λ m. replicate m x) e
