-- Edge links of which one is cut lead below a bound as before.
use mathlib.Core.Path.{◌≡◌, sym, subst}
use mathlib.Core.Logic.{◌≢◌, ⊎_elim}
use mathlib.Core.List.{List}
use Prim.Native.Nat.{ℕ, ◌≤◌, ◌<◌}
use lib.ListN.{length, get_or, set}
use lib.Seq.{get_or-set_same, get_or-set_other, set_out}
use Rattle.finite.specs.Tests.{same_or_not}
use Rattle.finite.specs.Bounded.{lt_or_ge}
use Rattle.model.specs.Arrival.{cut}

-- where a partner is fixed, what stands at a place is below a bound as before
pub cut_below : (n : ℕ) (edge : List ℕ) → ((d : ℕ) → d < n → get_or edge d d < n) →
    (d e : ℕ) → d < n → e < n → get_or (cut d edge) e e < n
unfolding cut
cut_below n edge below d e h k =
    ⊎_elim
    (λ (s : e ≡ v). subst (λ (x : ℕ). get_or (set edge v v) x x < n) (sym s) at_partner)
    (λ (s : e ≢ v). subst (λ (x : ℕ). x < n) (sym (get_or-set_other edge v e v e s)) (below e k))
    (same_or_not e v)
  where
    v : ℕ
    v = get_or edge d d

    at_partner : get_or (set edge v v) v v < n
    at_partner =
        ⊎_elim
        (λ (l : v < length edge). subst (λ (x : ℕ). x < n) (sym (get_or-set_same edge v v v l)) (below d h))
        (λ (l : length edge ≤ v).
        subst (λ (s : List ℕ). get_or s v v < n) (sym (set_out edge v v l)) (below v (below d h)))
        (lt_or_ge v (length edge))
