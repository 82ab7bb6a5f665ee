-- `loading::map_of` meets its contract: where a point is refused the file's map is not sound, and else it is where
-- what the points build writes the file.
use mathlib.Core.Path.{◌≡◌, sym, ap, subst, ◌∙◌}
use mathlib.Core.Bool.{Bool, true, false}
use mathlib.Core.List.{List}
use Prim.Native.Nat.{ℕ}
use native.Mathlib.Omega.{arith}
use Rattle.std.specs.Prelude.{Option, Some, None, ok_or}
use Rattle.std.specs.Result.{result_ok}
use Rattle.std.proofs.lemmas.Result.{err_from_is_err_and}
use Rattle.std.specs.declared.result.Result.{Result}
use Rattle.std.specs.declared.result.Result.TheVariants.{Ok, Err}
use Rattle.finite.specs.Tests.{of_true, is_false}
use Rattle.finite.specs.Lists.{same_list}
use Rattle.finite.specs.Bounded.{table, length_table}
use Rattle.model.specs.declared.Refusal.{Refusal}
use Rattle.model.specs.declared.Map.{Map}
use Rattle.model.specs.Refusals.{NoneApplies}
use Rattle.model.specs.Maps.{point_in, empty_map}
use Rattle.model.specs.Shape.{Shaped}
use Rattle.model.specs.Building.{building_rules}
use Rattle.model.specs.Sound.{sound}
use Rattle.model.specs.Saved.{Bytes, count_in_file, places_in_file, points_in_file, built_in_file, saved_in, saved_length, map_in}
use Rattle.layout.proofs.Form.{Form, version_in_file, in_form_is}
use Rattle.hull.proofs.Building.{built_points}
use Rattle.soundness.specs.Rebuilding.{rebuilt, rebuilt_in}
use Rattle.soundness.proofs.Rebuilding.{rebuilt_some, rebuilt_none}
use Rattle.loading.proofs.Opening.{opened_sound, opened_unsound}
use Rattle.loading.proofs.Saving.{points_free, map_built, anew_shaped, writes_decides}
use Rattle.loading.proofs.map_of.Goals as goal
use Rattle.loading.proofs.map_of.Goals.{After-rebuild_in, Start}

form : (s : Start) → Form (version_in_file s.args.file.now) s.args.file.now
form s = (in_form_is s.args.file.now s.requires).1

pub number_at-count-requires : goal.number_at-count-requires
number_at-count-requires c = let f = form (goal.at.number_at-count-requires c).Start in
    (omega (arith, f.whole), omega arith)

pub points_in-points-requires : goal.points_in-points-requires
points_in-points-requires c = let f = form (goal.at.points_in-points-requires c).Start in
    (omega (arith, c.number_at-count.ensures.0, f.few), omega (arith, c.number_at-count.ensures.0, f.whole))

pub number_at-version-requires : goal.number_at-version-requires
number_at-version-requires c = let f = form (goal.at.number_at-version-requires c).Start in
    (omega (arith, f.whole), omega arith)

-- the points of the file were offered anew
module _ (c : After-rebuild_in) where
  abbrev file : List ℕ
  file = c.args.file.now

  bytes : Bytes file
  bytes = record { small = λ i. (c.type_inv.file i).fits }

  -- what was built, where the offers came to this
  abbrev told : Option Unit → Option Map
  told o = rebuilt_in o c.rebuild_in.new.map

  made : rebuilt_in c.rebuild_in.result c.rebuild_in.new.map ≡ rebuilt (points_in_file file)
  made =
      let counted = c.number_at-count.ensures.0 in
      let points = c.points_in-points.ensures ∙ ap (places_in_file file) counted in
      c.rebuild_in.ensures ∙ (λ i. rebuilt (table (counted i) (point_in (points i))))

  -- where one of them was refused
  stopped : rebuilt_in c.rebuild_in.result c.rebuild_in.new.map ≡ None → sound (map_in file) ≡ false
  stopped e =
      is_false (sound (map_in file))
      (λ t. rebuilt_none (points_in_file file) (sym made ∙ e) (points_free file t))

  -- where all of them were accepted
  module _ {m : Map} (e : rebuilt_in c.rebuild_in.result c.rebuild_in.new.map ≡ Some m) where
    both : NoneApplies (building_rules empty_map (points_in_file file)) × (m ≡ built_in_file file)
    both = rebuilt_some (points_in_file file) m (sym made ∙ e)

    counted : m.count ≡ count_in_file file
    counted =
        ap (λ (n : Map). n.count) both.1 ∙ built_points (points_in_file file)
        ∙ length_table (count_in_file file) (point_in (places_in_file file (count_in_file file)))

    shaped : Shaped m
    shaped = subst Shaped (sym both.1) (anew_shaped file bytes c.requires both.0)

    decided : {v : ℕ} → v ≡ version_in_file file → {r : Bool} → r ≡ same_list (saved_in v m) file →
        r ≡ sound (map_in file)
    decided is found =
        found ∙ (λ i. same_list (saved_in (is i) (both.1 i)) file)
        ∙ writes_decides file bytes c.requires both.0

    map_is : sound (map_in file) ≡ true → m ≡ map_in file
    map_is t = both.1 ∙ sym (map_built file (of_true (sound (map_in file)) t))

-- a refusal, as one of a map
abbrev refused : {A : Type 0} → Result A Refusal → Result Map Refusal
refused (Ok a) = Err Refusal.NotSound
refused (Err r) = Err r

pub returns-in_err-ok_or : goal.returns-in_err-ok_or
returns-in_err-ok_or c =
    let d = (goal.at.returns-in_err-ok_or c).After-rebuild_in in
    let none : c.rebuild_in.result ≡ None = c.ok_or.ensures.ok_part ∙ ap result_ok c.in_err-ok_or.was in
    let p = err_from_is_err_and c.from_residual.result c.from_residual.ensures.1 in
    rw (p.1, p.2)
    (ap (λ (r : Result Unit Refusal). refused r)
    (c.in_err-ok_or.ensures.value ∙ ap (λ (o : Option Unit). ok_or o Refusal.NotSound) none)
    ∙ opened_unsound (file d) (stopped d (ap (told d) none)))

pub rebuild_in-requires : goal.rebuild_in-requires
rebuild_in-requires c = c.empty_map-map.ensures

pub invariant_of-writes : goal.invariant_of-writes
invariant_of-writes c =
    record {
      shaped =
          shaped (goal.at.invariant_of-writes c).After-rebuild_in
          (ap (told (goal.at.invariant_of-writes c).After-rebuild_in)
          (c.ok_or.ensures.ok_part ∙ ap result_ok c.in_ok-ok_or.was));
    }

pub writes-requires : goal.writes-requires
writes-requires c =
    let d = (goal.at.writes-requires c).After-rebuild_in in
    let n = counted d (ap (told d) (c.ok_or.ensures.ok_part ∙ ap result_ok c.in_ok-ok_or.was)) in
    (form (goal.at.writes-requires c).Start).whole
    ∙ (λ i. saved_length (sym c.number_at-version.ensures.0 i) (sym n i))

pub returns-then-not-writes : goal.returns-then-not-writes
returns-then-not-writes c =
    let d = (goal.at.returns-then-not-writes c).After-rebuild_in in
    let some = ap (told d) (c.ok_or.ensures.ok_part ∙ ap result_ok c.in_ok-ok_or.was) in
    opened_unsound (file d) (sym (decided d some c.number_at-version.ensures.0 c.writes.ensures) ∙ c.if-not-writes.true)

pub returns : goal.returns
returns c =
    let d = (goal.at.returns c).After-rebuild_in in
    let some = ap (told d) (c.ok_or.ensures.ok_part ∙ ap result_ok c.in_ok-ok_or.was) in
    let whole = sym (decided d some c.number_at-version.ensures.0 c.writes.ensures) ∙ c.if-not-writes.false in
    ap Ok (map_is d some whole) ∙ opened_sound (file d) whole
