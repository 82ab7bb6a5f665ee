-- Lists of edge links: what `cut` and `join` of model change. `link_of e d` is where the list e leads
-- from d.
use mathlib.Core.Path.{◌≡◌, ◌∙◌}
use mathlib.Core.Logic.{◌≢◌, ⊎_elim}
use mathlib.Core.List.{List}
use Prim.Native.Nat.{ℕ, ◌≤◌, ◌<◌}
use lib.ListN.{length, set, length-set, get_or-eq_default}
use lib.Seq.{get_or-set_same, get_or-set_other}
use Rattle.finite.specs.Bounded.{lt_or_ge}
use Rattle.orbits.specs.Links.{link_of}
use Rattle.model.specs.Arrival.{cut, join}

pub length_cut : (x : ℕ) (e : List ℕ) → length (cut x e) ≡ length e
unfolding cut
length_cut x e = length-set e (link_of e x) (link_of e x)

-- the old partner of x is fixed, and nothing else changes
pub cut_same : (x d : ℕ) (e : List ℕ) → d ≡ link_of e x → link_of (cut x e) d ≡ d
unfolding cut
cut_same x d e i =
    rw i
    (⊎_elim
    (λ (l : link_of e x < length e). get_or-set_same e (link_of e x) (link_of e x) (link_of e x) l)
    (λ (l : length e ≤ link_of e x).
    get_or-eq_default (set e (link_of e x) (link_of e x)) (link_of e x) (rw (length-set e (link_of e x) (link_of e x)) l))
    (lt_or_ge (link_of e x) (length e)))

pub cut_other : (x d : ℕ) (e : List ℕ) → d ≢ link_of e x → link_of (cut x e) d ≡ link_of e d
unfolding cut
cut_other x d e other = get_or-set_other e (link_of e x) d (link_of e x) d other

pub length_join : (a b : ℕ) (e : List ℕ) → length (join a b e) ≡ length e
unfolding join
length_join a b e = length-set (set e a b) b a ∙ length-set e a b

-- a and b are each other's partner, and nothing else changes
module _ (a b : ℕ) (e : List ℕ) where
  pub join_first : a ≢ b → a < length e → link_of (join a b e) a ≡ b
  unfolding join
  join_first other l = get_or-set_other (set e a b) b a a a other ∙ get_or-set_same e a b a l

  pub join_second : b < length e → link_of (join a b e) b ≡ a
  unfolding join
  join_second l = get_or-set_same (set e a b) b a b (rw (length-set e a b) l)

  pub join_other : (d : ℕ) → d ≢ a → d ≢ b → link_of (join a b e) d ≡ link_of e d
  unfolding join
  join_other d i j = get_or-set_other (set e a b) b d a d j ∙ get_or-set_other e a d b d i
