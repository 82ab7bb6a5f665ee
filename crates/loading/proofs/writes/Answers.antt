-- `loading::writes` meets its contract: the front of what was written is the map's file.
use mathlib.Core.Path.{◌≡◌, sym, ap, ◌∙◌}
use mathlib.Core.List.{List}
use Prim.Native.Nat.{ℕ, ◌≤◌}
use native.Mathlib.Omega.{arith}
use lib.ListN.{length, take, drop, replicate, length-replicate}
use lib.Seq.{length-take-le, take-append_seam}
use Rattle.finite.specs.Lists.{same_list}
use Rattle.finite.specs.Overwriting.{over}
use Rattle.model.specs.Saved.{saved_in}
use Rattle.layout.proofs.Form.{notes_short}
use Rattle.saved.proofs.Places.{length_saved_in}
use Rattle.loading.proofs.writes.Goals as goal
use Rattle.loading.proofs.writes.Goals.{After-write_map}

pub write_map-requires : goal.write_map-requires
write_map-requires c =
    omega (arith, c.args.sound.shaped.links.fits, notes_short c.args.version c.args.sound.map.now.count)

module _ (c : After-write_map) where
  abbrev file : List ℕ
  file = c.args.file.now

  abbrev bytes : List ℕ
  bytes = saved_in c.args.version c.args.sound.map.now

  long : length bytes ≡ length file
  long = length_saved_in c.args.version c.args.sound.map.now ∙ sym c.requires

  front : take (length file) c.write_map.new.lent ≡ bytes
  front =
      ap (take (length file)) c.write_map.ensures
      ∙ ap (λ (n : ℕ). take n (over bytes (replicate {A = ℕ} 9225 0))) (sym long)
      ∙ take-append_seam bytes (drop (length bytes) (replicate {A = ℕ} 9225 0))

  whole : length file ≤ length c.write_map.new.lent
  whole =
      omega (
        arith,
        c.args.sound.shaped.links.fits,
        notes_short c.args.version c.args.sound.map.now.count,
        c.requires,
        c.write_map.auto.lent,
        length-replicate {A = ℕ} 9225 0,
      )

pub slice_bounds-written-end : goal.slice_bounds-written-end
slice_bounds-written-end c = whole (goal.at.slice_bounds-written-end c).After-write_map

pub slice_bounds-same-end : goal.slice_bounds-same-end
slice_bounds-same-end c =
    sym (length-take-le _ _ (whole (goal.at.slice_bounds-same-end c).After-write_map))

pub returns : goal.returns
returns c =
    let d = (goal.at.returns c).After-write_map in
    c.same.ensures ∙ ap (λ (s : List ℕ). same_list s (file d)) (front d)
