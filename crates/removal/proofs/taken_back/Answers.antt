-- `removal::taken_back` meets its contract: by what is noted of the last point the code makes the map
-- before it.
use mathlib.Core.Path.{◌≡◌, refl, sym, ap, ◌∙◌}
use Prim.Native.Nat.{◌<◌}
use native.Mathlib.Omega.{arith}
use lib.Dec.{T}
use lib.ListN.{length, get_or, take}
use Rattle.std.proofs.lemmas.List.{length-take-le}
use Rattle.finite.specs.ListLaws.{get_d_any}
use Rattle.model.specs.declared.Note.{Note}
use Rattle.model.specs.declared.Map.{Map}
use Rattle.model.specs.Maps.{point_limit, note, no_note}
use Rattle.model.specs.Sound.{sound}
use Rattle.model.specs.Removal.{last}
use Rattle.hull.proofs.Sound.{sound_shaped}
use Rattle.removal.specs.Unlinking.{latest, unspliced}
use Rattle.removal.proofs.References.{latest_taken}
use Rattle.removal.proofs.Undone.{second_undone, outside_undone, alone_undone, last_unspliceable, left_behind}
use Rattle.removal.proofs.taken_back.Goals as goal

-- a map with a last point
module _ (m : Map) (q : T (sound m) × (0 < m.count)) where
  below : last m < point_limit
  below = omega (arith, (sound_shaped m q.0).links.fits, q.1)

  -- what is read of it is what is noted of it
  note_is : (d : Note) → get_or m.notes (last m) d ≡ note m (last m)
  unfolding note
  note_is d =
      get_d_any m.notes (last m) d no_note (omega (arith, below, (sound_shaped m q.0).notes.notes_whole))

  arrival_is : (d : Note) → (get_or m.notes (last m) d).arrival ≡ (note m (last m)).arrival
  arrival_is d = ap (λ (n : Note). n.arrival) (note_is d)

  -- the notes before it are the map's
  latest_is : latest (take (last m) m.notes) (length (take (last m) m.notes)) ≡ latest m.notes (last m)
  latest_is =
      ap (latest (take (last m) m.notes))
      (length-take-le (last m) m.notes (omega (arith, below, (sound_shaped m q.0).notes.notes_whole)))
      ∙ latest_taken m.notes (last m) (last m) (omega arith)

pub bounds-map-k : goal.bounds-map-k
bounds-map-k c = below c.args.map.now c.requires

pub offset_bounds-map-k : goal.offset_bounds-map-k
offset_bounds-map-k c = omega (arith, below c.args.map.now c.requires)

pub bounds-before-k : goal.bounds-before-k
bounds-before-k c = below c.args.map.now c.requires

pub offset_bounds-before-k : goal.offset_bounds-before-k
offset_bounds-before-k c = omega (arith, below c.args.map.now c.requires)

pub bounds-before-k-2 : goal.bounds-before-k-2
bounds-before-k-2 c = below c.args.map.now c.requires

pub offset_bounds-before-k-2 : goal.offset_bounds-before-k-2
offset_bounds-before-k-2 c = omega (arith, below c.args.map.now c.requires)

pub returns-then-note-eq-SECOND : goal.returns-then-note-eq-SECOND
returns-then-note-eq-SECOND c =
    let m = c.args.map.now in
    let q = c.requires in
    left_behind m refl refl c.fixed_links-before.ensures refl
    ∙ second_undone m q.0 q.1 (sym (arrival_is m q _) ∙ c.if-note-eq-SECOND.true)

pub unsplice-requires : goal.unsplice-requires
unsplice-requires c =
    let m = c.args.map.now in
    let q = c.requires in
    rw (note_is m q _) (last_unspliceable m q.0 q.1 (sym (arrival_is m q _) ∙ c.if-note-eq-OUTSIDE.true))

pub returns-then-note-eq-OUTSIDE : goal.returns-then-note-eq-OUTSIDE
returns-then-note-eq-OUTSIDE c =
    let m = c.args.map.now in
    let q = c.requires in
    left_behind m refl refl
    (c.unsplice.ensures ∙ ap (λ (n : Note). unspliced (last m) n.left n.right m.edge) (note_is m q _))
    (c.latest.ensures ∙ latest_is m q)
    ∙ outside_undone m q.0 q.1 (sym (arrival_is m q _) ∙ c.if-note-eq-OUTSIDE.true)

pub returns : goal.returns
returns c =
    let m = c.args.map.now in
    let q = c.requires in
    left_behind m refl refl refl refl
    ∙ alone_undone m q.0 q.1 (λ e. c.if-note-eq-SECOND.false (arrival_is m q _ ∙ e))
    (λ e. c.if-note-eq-OUTSIDE.false (arrival_is m q _ ∙ e))
