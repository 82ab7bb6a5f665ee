-- The moves of a walk, in the order of this page: what one step comes to, with the moves left and made
-- as the code counts them; a walk round a ring of edges comes home after twice as many moves as the
-- ring has edges.
-- Document 01: "A walk from a dart is read edge, point, edge in turn."
use mathlib.Core.Path.{◌≡◌, refl, sym, ap, ◌∙◌}
use mathlib.Core.Logic.{◌≢◌}
use mathlib.Core.List.{List, [], ◌∷◌, ◌++◌}
use Prim.Native.Nat.{ℕ, zero, suc, ◌+◌, ◌-◌, ◌*◌, ◌≤◌}
use native.Mathlib.Numerals.{add-one}
use native.Mathlib.Omega.{arith}
use lib.Dec.{T}
use lib.ListN.{length}
use Rattle.finite.specs.Lists.{elem}
use Rattle.finite.specs.ListLaws.{elem_head, elem_tail}
use Rattle.finite.specs.Cycles.{Chain, Cycle}
use Rattle.orbits.specs.Walks.{ends, edge_step, point_step, walk}
use Rattle.orbits.specs.declared.Ending.TheVariants.{Home, Loose}
use Rattle.orbits.proofs.Walks.{edge_fixed, edge_moved, point_home, point_on}

-- ---- one step

-- k moves are left at d, m are made, and e is where the link leads
module _ (f g : ℕ → ℕ) (start : ℕ) where
  pub edge_stops : (k d m : ℕ) → k ≡ 0 → edge_step f g start k d m ≡ ends Loose d m
  unfolding edge_step
  edge_stops k d m none = rw none

  pub edge_ends : (k d e m : ℕ) → k ≢ 0 → e ≡ f d → e ≡ d → edge_step f g start k d m ≡ ends Loose d m
  edge_ends zero d e m some leads same = absurd (some refl)
  edge_ends (suc k) d e m some leads same = edge_fixed f g start k d m (sym leads ∙ same)

  pub edge_leads : (k d e m : ℕ) → k ≢ 0 → e ≡ f d → e ≢ d →
      edge_step f g start k d m ≡ point_step f g start (k - 1) e (m + 1)
  edge_leads zero d e m some leads moves = absurd (some refl)
  edge_leads (suc k) d e m some leads moves =
      let less : suc k - 1 ≡ k = omega arith in
      rw (less, leads, add-one) (edge_moved f g start k d m (λ same. moves (leads ∙ same)))

  pub point_stops : (k d m : ℕ) → k ≡ 0 → point_step f g start k d m ≡ ends Loose d m
  unfolding point_step
  point_stops k d m none = rw none

  pub point_ends : (k d e m : ℕ) → k ≢ 0 → e ≡ g d → e ≡ start →
      point_step f g start k d m ≡ ends Home e (m + 1)
  point_ends zero d e m some leads home = absurd (some refl)
  point_ends (suc k) d e m some leads home =
      rw (leads, add-one) (point_home f g start k d m (sym leads ∙ home))

  pub point_leads : (k d e m : ℕ) → k ≢ 0 → e ≡ g d → e ≢ start →
      point_step f g start k d m ≡ edge_step f g start (k - 1) e (m + 1)
  point_leads zero d e m some leads away = absurd (some refl)
  point_leads (suc k) d e m some leads away =
      let less : suc k - 1 ≡ k = omega arith in
      rw (less, leads, add-one) (point_on f g start k d m (λ home. away (leads ∙ home)))

-- ---- round a ring

-- f moves d, and g leads on from there to e: an edge step and a point step
abbrev pub Leads : (ℕ → ℕ) → (ℕ → ℕ) → ℕ → ℕ → Type 0
Leads f g d e = (f d ≢ d) × (g (f d) ≡ e)

-- the members of a list stand for darts: such steps lead from each to the next, and home from the last
module _ (f g dart : ℕ → ℕ) (a : ℕ) where
  along_ring : (t : List ℕ) (k b m : ℕ) → Chain (λ x y. Leads f g (dart x) (dart y)) (b ∷ t ++ a ∷ []) →
      ((x : ℕ) → T (elem x t) → dart x ≢ dart a) → 2 * length (b ∷ t) ≤ k →
      edge_step f g (dart a) k (dart b) m ≡ ends Home (dart a) (m + 2 * length (b ∷ t))
  unfolding Chain
  along_ring t zero b m c away enough = absurd (omega arith)
  along_ring t (suc zero) b m c away enough = absurd (omega arith)
  along_ring [] (suc (suc k)) b m c away enough =
      let made : suc (suc m) ≡ m + 2 * 1 = omega arith in
      edge_moved f g (dart a) (suc k) (dart b) m c.0.0
      ∙ point_home f g (dart a) k (f (dart b)) (suc m) c.0.1
      ∙ (λ i. ends Home (c.0.1 i) (made i))
  along_ring (x ∷ t) (suc (suc k)) b m c away enough =
      let made : suc (suc m) + 2 * length (x ∷ t) ≡ m + 2 * length (b ∷ x ∷ t) = omega arith in
      edge_moved f g (dart a) (suc k) (dart b) m c.0.0
      ∙ point_on f g (dart a) k (f (dart b)) (suc m) (λ home. away x (elem_head x t) (sym c.0.1 ∙ home))
      ∙ ap (λ (d : ℕ). edge_step f g (dart a) k d (suc (suc m))) c.0.1
      ∙ along_ring t k x (suc (suc m)) c.1 (λ z h. away z (elem_tail z x t h)) (omega arith)
      ∙ ap (ends Home (dart a)) made

  -- a walk from one of them comes home after two moves for each
  pub walk_ring : (t : List ℕ) (k : ℕ) → Cycle (λ x y. Leads f g (dart x) (dart y)) (a ∷ t) →
      ((x : ℕ) → T (elem x t) → dart x ≢ dart a) → 2 * length (a ∷ t) ≤ k →
      walk f g k (dart a) ≡ ends Home (dart a) (2 * length (a ∷ t))
  unfolding walk Cycle
  walk_ring t k c away enough =
      let made : 0 + 2 * length (a ∷ t) ≡ 2 * length (a ∷ t) = omega arith in
      along_ring t k a 0 c away enough ∙ ap (ends Home (dart a)) made
