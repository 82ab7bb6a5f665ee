-- The laws of lists that hold links, in the order of this page: reading a link; a list that holds the
-- links "f, then g", from where f moves nothing on; the link "f, then g", which permutes what both permute.
use mathlib.Core.Path.{◌≡◌, sym, ap, subst⁻¹, ◌∙◌}
use mathlib.Core.Bool.{Bool}
use mathlib.Core.List.{List}
use Prim.Native.Nat.{ℕ, ◌≤◌, ◌<◌}
use native.Mathlib.Omega.{arith}
use lib.ListN.{length, get_or}
use Rattle.finite.specs.ListLaws.{get_d_any}
use Rattle.orbits.specs.Sets.{dart_limit}
use Rattle.orbits.specs.Links.{link_of, ◌then◌, Composable, Composed, Permutes, Permutation, Permuted}
use Rattle.orbits.proofs.Permutations.{compose_permutes}

-- within the list, what lies past it does not matter
pub link_read : (s : List ℕ) → length s ≡ dart_limit → (d : ℕ) → d < dart_limit → get_or s d 0 ≡ link_of s d
link_read s whole d h = get_d_any s d 0 d (omega arith)

-- from where f moves nothing on, a list that holds g holds the links of f and then g
pub composable_rest : {f g both : List ℕ} {n : ℕ} → Composable f g n both → (j : ℕ) → n ≤ j → j < dart_limit →
    get_or both j 0 ≡ (link_of f then link_of g) j
composable_rest {f} {g} c j h l =
    ap (λ (s : List ℕ). get_or s j 0) c.begun
    ∙ link_read g c.second_whole j l
    ∙ ap (link_of g) (sym (c.fixed j h))

-- the link "f, then g" permutes what both permute
pub composed_permutes : {n : ℕ} {present : ℕ → Bool} {f g h : List ℕ} → Composed f g h → Permutation n present f →
    Permutation n present g → Permutation n present h
composed_permutes {n} {present} c p q =
    record {
      whole = c.whole;
      permutes = subst⁻¹ (Permutes n present) c.leads (compose_permutes p.permutes q.permutes);
    }

-- one of two such lists, or both one after the other, taken twice
pub permuted_first : {n : ℕ} {present : ℕ → Bool} {f g : List ℕ} → Permuted n present f g → Permuted n present f f
permuted_first p = record { within = p.within; first = p.first; second = p.first }

pub permuted_second : {n : ℕ} {present : ℕ → Bool} {f g : List ℕ} → Permuted n present f g → Permuted n present g g
permuted_second p = record { within = p.within; first = p.second; second = p.second }

pub permuted_composed : {n : ℕ} {present : ℕ → Bool} {f g h : List ℕ} → Permuted n present f g → Composed f g h →
    Permuted n present h h
permuted_composed p c =
    let both = composed_permutes c p.first p.second in
    record { within = p.within; first = both; second = both }
