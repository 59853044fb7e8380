-- The layout of parts that are the same
use Rattle.std.proofs.Common.{◌≡◌, ℕ, List, ap, ◌∙◌}
use Rattle.call_report.specs.Reports.{layout}

pub layout_same : {a b d e a' b' d' e' : List ℕ} (n : ℕ) → a ≡ a' → b ≡ b' → d ≡ d' → e ≡ e' → layout a b n d e ≡ layout a' b' n d' e'
layout_same {b = b} {d} {e} {a'} {b'} {d'} n p q r s = ap (λ x. layout x b n d e) p ∙ ap (λ x. layout a' x n d e) q ∙ ap (λ x. layout a' b' n x e) r ∙ ap (λ x. layout a' b' n d' x) s
