-- Chains and cycles read backwards: where E holds from each member to the next, the converse of E holds
-- from each member of the reversed list to the next. A reversed cycle keeps its first member, its members
-- are members of the cycle, and it has the same length.
use Rattle.std.specs.Prelude.{◌≡◌, refl, ℕ, length}
use Rattle.std.proofs.Common.{sym, arith}
use Rattle.std.proofs.Math.Path.{subst}
use Rattle.std.proofs.Math.Logic.{⊎_elim}
use mathlib.Core.List.{List, [], ◌∷◌, ◌++◌, append_assoc}
use Rattle.std.proofs.Math.Dec.{T}
use Rattle.std.proofs.Math.ListN.{length-append}
use Rattle.finite.specs.Lists.{elem}
use Rattle.finite.specs.ListLaws.{elem_head, elem_tail, elem_one, elem_append}
use Rattle.finite.specs.Cycles.{Chain, Cycle, chain_join}

module _ (E : ℕ → ℕ → Type 0) where
  -- the converse of E
  abbrev pub Converse : ℕ → ℕ → Type 0
  Converse x y = E y x

  -- what stands between the ends of a chain, in reverse order
  record ReversedChain (x y : ℕ) (s : List ℕ) : Type 0 where
    list : List ℕ
    chain : Chain Converse (y ∷ list ++ x ∷ [])
    same_length : length list ≡ length s
    members : (z : ℕ) → T (elem z list) → T (elem z s)

  chain_reversed : (x y : ℕ) (s : List ℕ) → Chain E (x ∷ s ++ y ∷ []) → ReversedChain x y s
  unfolding Chain
  chain_reversed x y [] c =
      record { list = []; chain = (c.0, tt); same_length = refl; members = λ z h. h }
  chain_reversed x y (a ∷ s) c =
      let rest = chain_reversed a y s c.1 in
      record {
        list = rest.list ++ a ∷ [];
        chain =
            subst (λ (u : List ℕ). Chain Converse (y ∷ u)) (sym (append_assoc rest.list (a ∷ []) (x ∷ [])))
            (chain_join Converse (y ∷ rest.list) a (x ∷ []) rest.chain (c.0, tt));
        same_length = omega (arith, length-append rest.list (a ∷ []), rest.same_length);
        members =
            λ z h.
            ⊎_elim
            (λ (t : T (elem z rest.list)). elem_tail z a s (rest.members z t))
            (λ (t : T (elem z (a ∷ []))). rw (elem_one z a t) (elem_head a s))
            (elem_append z rest.list (a ∷ []) h);
      }

  -- what stands after the first member of a cycle, in reverse order
  pub record Reversed (x : ℕ) (s : List ℕ) : Type 0 where
    pub list : List ℕ
    pub cycle : Cycle Converse (x ∷ list)
    pub same_length : length list ≡ length s
    pub members : (z : ℕ) → T (elem z list) → T (elem z s)

  pub cycle_reversed : (x : ℕ) (s : List ℕ) → Cycle E (x ∷ s) → Reversed x s
  unfolding Cycle
  cycle_reversed x s c =
      let r = chain_reversed x x s c in
      record { list = r.list; cycle = r.chain; same_length = r.same_length; members = r.members }
