-- Saving and loading, version by version, in the order of this page: a sound map's file in a version is in form, and
-- its map is the map; the map of a file in form is sound just where its points are all accepted and what they build
-- writes the file; then the theorems: each version's accepted files are those that its own writer gives for sound
-- maps (`files_of_version`), a saved map reads back as itself (`load_of_save`), an accepted file is what its map writes
-- in its version (`save_of_load`), and no two files of a version have the same map (`one_file_for_a_map`).
-- Document 01, demand 2: "a saved map reads back as itself, and an accepted file is the only file that its map
-- writes"; document 02, request 107: "each version's accepted files are the ones its own writer gives for maps sound in
-- this new sense; demand 2's last sentence is read so, version by version".
use mathlib.Core.Path.{◌≡◌, sym, ap, subst, ◌∙◌}
use mathlib.Core.Logic.{⊎_elim, ◌↔◌}
use mathlib.Core.Bool.{not}
use mathlib.Core.List.{List}
use Prim.Native.Nat.{ℕ}
use native.Mathlib.Omega.{arith}
use lib.Dec.{T, T_not}
use Rattle.finite.specs.Tests.{decide, is_true, is_false, same_test}
use Rattle.finite.specs.Lists.{same_list}
use Rattle.finite.specs.ListLaws.{same_list_eq, same_list_refl}
use Rattle.std.specs.declared.result.Result.TheVariants.{Ok}
use Rattle.model.specs.declared.Point.{Point}
use Rattle.model.specs.declared.Map.{Map}
use Rattle.model.specs.Refusals.{unless, NoneApplies}
use Rattle.model.specs.Maps.{empty_map}
use Rattle.model.specs.Shape.{Shaped}
use Rattle.model.specs.Building.{building_rules, built}
use Rattle.model.specs.Sound.{sound}
use Rattle.model.specs.Saved.{Bytes, saved_in, points_in_file, built_in_file, file_in_form, map_in, loaded}
use Rattle.model.proofs.Sound.{sound_is}
use Rattle.maps.proofs.Empty.{empty_sound}
use Rattle.layout.proofs.Form.{IsVersion, version_small, version_in_file, in_form_is}
use Rattle.saved.proofs.Places.{version_read}
use Rattle.saved.proofs.Files.{saved_in_form, map_back, file_back, points_in}
use Rattle.hull.proofs.Building.{built_shaped}
use Rattle.hull.proofs.Sound.{built_sound, sound_shaped}

-- the file of a sound map in a version
module _ {v : ℕ} (is : IsVersion v) (m : Map) (t : T (sound m)) where
  saved_form : T (file_in_form (saved_in v m))
  saved_form = saved_in_form is (sound_shaped m t)

  saved_map : map_in (saved_in v m) ≡ m
  saved_map = map_back is (sound_shaped m t) (λ e. (sound_is m t).is_built)

-- ---- the map of a file in form

module _ (s : List ℕ) where
  -- a sound one is what the points of the file build, and none of them is refused
  pub points_free : T (sound (map_in s)) → NoneApplies (building_rules empty_map (points_in_file s))
  points_free t =
      subst (λ (ps : List Point). NoneApplies (building_rules empty_map ps)) (sym (points_in s)) (sound_is (map_in s) t).free

  pub map_built : T (sound (map_in s)) → map_in s ≡ built_in_file s
  map_built t = (sound_is (map_in s) t).is_built ∙ ap (built empty_map) (sym (points_in s))

  module _ (b : Bytes s) (in_form : T (file_in_form s)) (free : NoneApplies (building_rules empty_map (points_in_file s))) where
    abbrev v : ℕ
    v = version_in_file s

    is : IsVersion v
    is = (in_form_is s in_form).0

    -- what the points build is sound, and where it writes the file it is its map
    pub anew_shaped : Shaped (built_in_file s)
    anew_shaped = built_shaped empty_sound (points_in_file s) free

    written_back : saved_in v (built_in_file s) ≡ s → map_in s ≡ built_in_file s
    written_back e = ap map_in (sym e) ∙ saved_map is (built_in_file s) (built_sound (points_in_file s) free)

    pub writes_decides : same_list (saved_in v (built_in_file s)) s ≡ sound (map_in s)
    writes_decides =
        same_test _ _
        (λ t.
        let same = same_list_eq (saved_in v (built_in_file s)) s t in
        subst (λ (m : Map). T (sound m)) (sym (written_back same)) (built_sound (points_in_file s) free))
        (λ t.
        let same : saved_in v (built_in_file s) ≡ s =
        ap (saved_in v) (sym (map_built t)) ∙ file_back b (in_form_is s in_form).1 in
        subst (λ (u : List ℕ). T (same_list u s)) (sym same) (same_list_refl s))

-- ---- saving and loading

-- the file is accepted, with the map m
abbrev pub Accepted : List ℕ → Map → Type 0
Accepted s m = loaded s ≡ Ok m

-- what an accepted file is
pub record Taken (s : List ℕ) (m : Map) : Type 0 where
  pub in_form : T (file_in_form s)
  pub is_sound : T (sound (map_in s))
  pub map_is : m ≡ map_in s

accepted_is : (s : List ℕ) (m : Map) → Accepted s m → Taken s m
unfolding loaded unless
accepted_is s m a =
    ⊎_elim
    (λ (t : T (file_in_form s)).
    ⊎_elim
    (λ (u : T (sound (map_in s))).
    record {
      in_form = t;
      is_sound = u;
      map_is = let e = rw (is_true (file_in_form s) t, is_true (sound (map_in s)) u) at a in cc;
    })
    (λ (u : T (not (sound (map_in s)))).
    let e =
    rw (is_true (file_in_form s) t, is_false (sound (map_in s)) (T_not (sound (map_in s)) u)) at a
    in
    let z : ◌≡◌ {A = ℕ} 0 1 = cc in absurd (omega arith))
    (decide (sound (map_in s))))
    (λ (t : T (not (file_in_form s))).
    let e = rw (is_false (file_in_form s) (T_not (file_in_form s) t)) at a in
    let z : ◌≡◌ {A = ℕ} 0 1 = cc in absurd (omega arith))
    (decide (file_in_form s))

-- "a saved map reads back as itself"
pub load_of_save : {v : ℕ} → IsVersion v → (m : Map) → T (sound m) → loaded (saved_in v m) ≡ Ok m
unfolding loaded unless
load_of_save {v} is m t =
    rw (saved_map is m t, is_true (file_in_form (saved_in v m)) (saved_form is m t), is_true (sound m) t)

-- "an accepted file is the only file that its map writes", in its version
pub save_of_load : (s : List ℕ) → Bytes s → (m : Map) → Accepted s m → saved_in (version_in_file s) m ≡ s
save_of_load s b m a =
    let taken = accepted_is s m a in
    ap (saved_in (version_in_file s)) taken.map_is ∙ file_back b (in_form_is s taken.in_form).1

-- no two accepted files of a version have the same map
pub one_file_for_a_map : (s t : List ℕ) → Bytes s → Bytes t → (m n : Map) → Accepted s m → Accepted t n →
    version_in_file s ≡ version_in_file t → m ≡ n → s ≡ t
one_file_for_a_map s t b c m n p q v e =
    sym (save_of_load s b m p) ∙ (λ i. saved_in (v i) (e i)) ∙ save_of_load t c n q

-- "each version's accepted files are the ones its own writer gives for maps sound in this new sense"
pub files_of_version : {v : ℕ} → IsVersion v → (s : List ℕ) → Bytes s → (m : Map) →
    (Accepted s m × (version_in_file s ≡ v)) ↔ (T (sound m) × (s ≡ saved_in v m))
files_of_version {v} is s b m = (
  λ h.
      let taken = accepted_is s m h.0 in (
        subst (λ (n : Map). T (sound n)) (sym taken.map_is) taken.is_sound,
        sym (save_of_load s b m h.0) ∙ (λ i. saved_in (h.1 i) m),
      ),
  λ h. (ap loaded h.1 ∙ load_of_save is m h.0, ap version_in_file h.1 ∙ version_read v m (version_small is)),
)
