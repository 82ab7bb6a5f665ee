-- Chains and cycles, in the order of this page: a relation that holds from each member of a list to
-- the next; the same round a cycle, from the last member to the first too; the laws of cutting,
-- joining and rotating them. An outline is such a cycle.
use Rattle.std.proofs.Common.{sym}
use Rattle.std.proofs.Math.Path.{subst}
use mathlib.Core.List.{List, [], ◌∷◌, ◌++◌, append_assoc, append-nil}

module _ {A : Type 0} (E : A → A → Type 0) where
  -- E holds from each member to the next
  unfoldable pub Chain : List A → Type 0
  Chain [] = Unit {0}
  Chain (a ∷ []) = Unit {0}
  Chain (a ∷ b ∷ s) = E a b × Chain (b ∷ s)

  -- E holds from each member to the next, and from the last to the first
  unfoldable pub Cycle : List A → Type 0
  Cycle [] = Unit {0}
  Cycle (a ∷ s) = Chain (a ∷ s ++ a ∷ [])

  -- a chain is cut at any member, which ends the one half and begins the other
  pub chain_cut : (s : List A) (x : A) (t : List A) → Chain (s ++ x ∷ t) → Chain (s ++ x ∷ []) × Chain (x ∷ t)
  unfolding Chain
  chain_cut [] x t c = (tt, c)
  chain_cut (a ∷ []) x t c = ((c.0, tt), c.1)
  chain_cut (a ∷ b ∷ s) x t c = let r = chain_cut (b ∷ s) x t c.1 in ((c.0, r.0), r.1)

  pub chain_join : (s : List A) (x : A) (t : List A) → Chain (s ++ x ∷ []) → Chain (x ∷ t) → Chain (s ++ x ∷ t)
  unfolding Chain
  chain_join [] x t c d = d
  chain_join (a ∷ []) x t c d = (c.0, d)
  chain_join (a ∷ b ∷ s) x t c d = (c.0, chain_join (b ∷ s) x t c.1 d)

  -- a cycle may begin at any of its members
  pub cycle_rotate : (s : List A) (x : A) (t : List A) → Cycle (s ++ x ∷ t) → Cycle (x ∷ t ++ s)
  unfolding Cycle
  cycle_rotate [] x t c = subst (λ (u : List A). Chain (x ∷ u ++ x ∷ [])) (sym (append-nil t)) c
  cycle_rotate (a ∷ s) x t c =
      let halves =
      chain_cut (a ∷ s) x (t ++ a ∷ []) (subst (λ (u : List A). Chain (a ∷ u)) (append_assoc s (x ∷ t) (a ∷ [])) c)
      in
      subst (λ (u : List A). Chain (x ∷ u)) (sym (append_assoc t (a ∷ s) (x ∷ [])))
      (chain_join (x ∷ t) a (s ++ x ∷ []) halves.1 halves.0)
