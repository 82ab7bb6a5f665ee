-- What is written of a map, in the order of this page: the numbers that a rule gives; the bytes before the notes;
-- how many notes there are.
use Rattle.std.specs.Prelude.{◌≡◌, cond, List, ◌++◌, ℕ, ◌*◌, ◌<◌, eqb}
use Rattle.finite.specs.Bounded.{one_if}
use Rattle.model.specs.declared.Map.{Map}
use Rattle.model.specs.Maps.{has_helper, edge_link}
use Rattle.model.specs.Saved.{old_version, complement, block, coordinate, header}

-- each of the first n answers is that of the rule: `post i r` says that r may be answer i
abbrev pub Gives : (ℕ → ℕ → Type 0) → ℕ → (ℕ → ℕ) → Type 0
Gives post n f = (i r : ℕ) → i < n → post i r → r ≡ f i

-- the bytes of a map before its notes
unfoldable pub unnoted : ℕ → Map → List ℕ
unnoted v m =
    header v m.count m.reference ++ block (2 * m.count) 4 (λ i. complement (coordinate m i))
    ++ block m.count 1 (λ k. one_if (has_helper m k))
    ++ block (2 * m.count) 2 (edge_link m)

-- of how many of n points version v has notes
abbrev pub noted_in : ℕ → ℕ → ℕ
noted_in v n = cond (eqb v old_version) 0 n
