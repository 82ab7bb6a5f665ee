-- The reference of a sound map is the own dart of its last point that arrived second or outside
-- (`reference_latest`): every arrival keeps this, and a sound map is one that offers lead to.
use mathlib.Core.Path.{◌≡◌, refl, sym, ap, subst, ◌∙◌}
use mathlib.Core.Bool.{cond}
use mathlib.Core.List.{List}
use Prim.Native.Nat.{ℕ, zero, suc, ◌≤◌}
use native.Mathlib.Omega.{arith}
use lib.Dec.{T}
use lib.ListN.{set, take}
use Rattle.std.proofs.lemmas.List.{get_or-take}
use Rattle.finite.specs.Tests.{is_true, is_false}
use lib.Seq.{get_or-set_same, get_or-set_other}
use Rattle.model.specs.declared.Point.{Point}
use Rattle.model.specs.declared.Note.{Note}
use Rattle.model.specs.declared.Map.{Map}
use Rattle.model.specs.declared.Offered.{Offered}
use Rattle.model.specs.Maps.{own, note_in, no_note, empty_map}
use Rattle.model.specs.Sound.{sound}
use Rattle.model.specs.Arrival.{with_point, alone, pair, spliced}
use Rattle.sight.specs.Requires.{Accepted}
use Rattle.hull.proofs.Outcomes.{Arrives, first, second, inside, outside}
use Rattle.hull.proofs.History.{run_keeps}
use Rattle.hull.proofs.Runs.{sound_reachable}
use Rattle.removal.specs.Unlinking.{is_corner, latest}

-- what is noted from place n on does not matter
pub latest_below : (notes : List Note) (n : ℕ) (noted : Note) (k : ℕ) → k ≤ n →
    latest (set notes n noted) k ≡ latest notes k
unfolding latest
latest_below notes n noted zero h = refl
latest_below notes n noted (suc k) h =
    rw (
      get_or-set_other notes n k noted no_note (λ e. omega arith),
      latest_below notes n noted k (omega arith),
    )

pub latest_taken : (notes : List Note) (n k : ℕ) → k ≤ n → latest (take n notes) k ≡ latest notes k
unfolding latest
latest_taken notes n zero h = refl
latest_taken notes n (suc k) h =
    rw (get_or-take n notes k no_note (omega arith), latest_taken notes n k (omega arith))

-- one place after another, from the last on
module _ (notes : List Note) (k : ℕ) where
  pub latest_corner : T (is_corner (note_in notes k).arrival) → own k ≡ latest notes (suc k)
  unfolding latest
  latest_corner t = sym (rw (is_true (is_corner (note_in notes k).arrival) t))

  pub latest_earlier : ¬ T (is_corner (note_in notes k).arrival) → latest notes k ≡ latest notes (suc k)
  unfolding latest
  latest_earlier n = sym (rw (is_false (is_corner (note_in notes k).arrival) n))

-- one point more
latest_more : {m : Map} {p : Point} → Accepted m p → (noted : Note) →
    latest (set m.notes m.count noted) (suc m.count)
    ≡ cond (is_corner noted.arrival) (own m.count) (latest m.notes m.count)
unfolding latest
latest_more {m} a noted =
    rw (
      get_or-set_same m.notes m.count noted no_note (omega (arith, a.is_sound.notes.notes_whole, a.room)),
      latest_below m.notes m.count noted m.count (omega arith),
    )

abbrev IsLatest : Map → Type 0
IsLatest m = m.reference ≡ latest m.notes m.count

arrival_latest : (m : Map) (p : Point) → Accepted m p → IsLatest m → (o : Offered) → Arrives m p o → IsLatest o.map
unfolding alone pair spliced with_point
arrival_latest m p a e o (first none) = e ∙ sym (latest_more a _)
arrival_latest m p a e o (second one) = ap own (sym one) ∙ sym (latest_more a _)
arrival_latest m p a e o (inside two none) = e ∙ sym (latest_more a _)
arrival_latest m p a e o (outside two some) = sym (latest_more a _)

pub reference_latest : (m : Map) → T (sound m) → IsLatest m
unfolding empty_map latest
reference_latest m t =
    let reached = (sound_reachable m).0 t in
    subst IsLatest reached.1
    (run_keeps (λ r. IsLatest r.map) (λ r e p a o arrives. arrival_latest r.map p a e o arrives) refl reached.0)
