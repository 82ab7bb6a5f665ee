-- One line after another, what is decided and what is ahead make up the report, in the order of
-- this page: the lines of the answers, and one more; nothing decided yet; a line is decided, where
-- it is refused and where its point is accepted; the line after it; the end of the text.
use mathlib.Core.Path.{◌≡◌, refl, sym, ap, subst, ◌∙◌}
use mathlib.Core.Bool.{true, false}
use mathlib.Core.List.{List, ◌++◌, flatten, append_assoc}
use Prim.Native.Nat.{ℕ, suc, ◌+◌, ◌≤◌, ◌<◌}
use native.Mathlib.Numerals.{add-one}
use native.Mathlib.Omega.{arith}
use borrow.Author.Tests.{leb-false}
use lib.Dec.{T}
use lib.ListN.{length, set, drop, length-set}
use lib.Seq.{get_or-set_same, get_or-set_other}
use Rattle.std.proofs.lemmas.List.{get_or-take, length-take-le}
use Rattle.std.specs.declared.result.Result.{Result}
use Rattle.std.specs.declared.result.Result.TheVariants.{Ok, Err}
use Rattle.finite.specs.Bounded.{table, table_same, flatten_more}
use Rattle.model.specs.declared.Refusal.{Refusal}
use Rattle.model.specs.declared.Arrival.{Arrival}
use Rattle.model.specs.declared.Point.{Point}
use Rattle.model.specs.declared.Ranged.{Ranged}
use Rattle.model.specs.declared.Map.{Map}
use Rattle.model.specs.declared.Offered.{Offered}
use Rattle.model.specs.Answers.{arrival_of}
use Rattle.model.specs.Plane.{origin}
use Rattle.model.specs.Maps.{empty_map, point, point_in}
use Rattle.model.specs.Arrival.{arrived, arrive}
use Rattle.model.specs.Offers.{offer, map_after}
use Rattle.model.specs.Sound.{sound}
use Rattle.model.specs.Text.{lines}
use Rattle.model.specs.Report.{text_limit, arrivals, offer_line}
use Rattle.survey.specs.Places.{at_end, line_at, next_line}
use Rattle.survey.proofs.Texts.{next_further, line_at_refused}
use Rattle.admission.specs.declared.hashes.Hashes.{Hashes}
use Rattle.admission.specs.Admission.{Admitted, admission_by}
use Rattle.admission.specs.Hashes.{AllHashed, no_hashes, with_hash}
use Rattle.admission.proofs.Hashing.{none_hashed, no_hashes_whole, one_hashed}
use Rattle.printing.specs.Printing.{arrival_line}
use Rattle.printing.proofs.Reports.{report_ended, report_goes_on}
use Rattle.sight.specs.Requires.{Accepted}
use Rattle.hull.proofs.Building.{arrive_count, arrive_points}
use Rattle.hull.proofs.Sound.{sound_shaped, sound_grows, empty_is_sound}
use Rattle.lines.specs.Packing as packing
use Rattle.lines.specs.Packing.{OfLine, bad_line, Packable, packed, unpacked}
use Rattle.lines.specs.Lines.{answer_at, answer_lines}
use Rattle.lines.proofs.Packed.{unpacked_packed}
use Rattle.deciding.specs.Deciding.{put_points, Surveying, Decidable, DecidedLine, Readable, Surveys}
use Rattle.deciding.proofs.Verdicts.{point_refusal, point_refused, point_taken, point_accepted}
use Rattle.deciding.proofs.Verdicts.{arrive_packable, found_refusing, found_free}

-- ---- the lines of the answers

module _ (answers : List ℕ) (n c : ℕ) (h : n < length answers) where
  pub answer_more : answer_lines (set answers n c) (n + 1)
      ≡ answer_lines answers n ++ arrival_line n (unpacked c)
  unfolding answer_lines
  answer_more =
      rw add-one (flatten_more n (answer_at (set answers n c)))
      ∙ (λ i. flatten (table_same n (answer_at (set answers n c)) (answer_at answers)
      (λ k l. ap (λ (x : ℕ). arrival_line k (unpacked x))
      (get_or-set_other answers n k c 0 (λ e. omega arith))) i)
      ++ arrival_line n (unpacked (get_or-set_same answers n c 0 h i)))

-- ---- nothing decided yet

pub nothing_decided : (text answers : List ℕ) → Readable text answers →
    Surveying text empty_map no_hashes answers 0 0
unfolding answer_lines flatten table empty_map
nothing_decided text answers r =
    record {
      is_sound = empty_is_sound;
      all_hashed = none_hashed no_hashes_whole;
      together = refl;
      few = omega arith;
      inside = omega arith;
      short = r.short;
      whole = r.whole;
    }

-- ---- the points of a map after an arrival, hashed

-- a point that the map has stands there too
module _ (m : Map) (fits : m.count ≤ length m.points) where
  pub points_put : length (put_points m) ≡ m.count
  points_put = length-take-le m.count m.points fits

  pub point_put : (k : ℕ) → k < m.count → point_in (put_points m) k ≡ point m k
  unfolding point
  point_put k h = get_or-take m.count m.points k origin h

pub grown_hashed : {m : Map} {p : Point} {hashes : Hashes} → T (sound m) → Accepted m p →
    AllHashed (put_points m) hashes → AllHashed (put_points (arrive m p).map) (with_hash hashes p)
grown_hashed {m} {p} s a h =
    let before = sound_shaped m s in
    let after = sound_shaped (arrive m p).map (sound_grows s a) in
    let room : m.count ≤ length m.points = omega (arith, before.links.fits, before.points.points_whole) in
    let room' : (arrive m p).map.count ≤ length (arrive m p).map.points =
    omega (arith, after.links.fits, after.points.points_whole) in
    let more : (arrive m p).map.count ≡ suc m.count = arrive_count m p in
    let put = arrive_points a in
    one_hashed p h
    (omega (arith, points_put m room, points_put (arrive m p).map room', more))
    (λ k l.
    let below : k < m.count = omega (arith, l, points_put m room) in
    point_put (arrive m p).map room' k (omega (arith, below, more)) ∙ put.0 k below
    ∙ sym (point_put m room k below))
    (ap (point_in (put_points (arrive m p).map)) (points_put m room)
    ∙ point_put (arrive m p).map room' m.count (omega (arith, more)) ∙ put.1)

-- ---- a line is decided

module _ {m : Map} {hashes : Hashes} {line : Result Point Refusal} (d : Decidable m hashes line) where
  decided_refused : {r : Refusal} → offer_line m line ≡ Err r → OfLine r → DecidedLine m m hashes line (Err r)
  unfolding arrival_of map_after
  decided_refused is small =
      record {
        answered = ap arrival_of (sym is);
        left = ap (map_after m) (sym is);
        packable = packing.refused small;
        is_sound = d.is_sound;
        all_hashed = d.all_hashed;
      }

  -- one that is not in form
  pub decided_malformed : {r : Refusal} → line ≡ Err r → DecidedLine m m hashes line (Err r)
  unfolding offer_line
  decided_malformed {r} is =
      let bad : r ≡ Refusal.BadLine = d.as_read r is in
      decided_refused (ap (offer_line m) is) (subst OfLine (sym bad) bad_line)

  -- one that names p
  module _ {p : Point} (named : line ≡ Ok p) where
    offer_is : offer_line m line ≡ offer m p
    unfolding offer_line
    offer_is = ap (offer_line m) named

    pub decided_not_admitted : {r : Refusal} → Err r ≡ admission_by (put_points m) p →
        DecidedLine m m hashes line (Err r)
    decided_not_admitted e =
        let f = found_refusing m d.is_sound p e in
        decided_refused (offer_is ∙ point_refused m d.is_sound p f) (point_refusal m d.is_sound p f)

    module _ (q : Ranged) (e : Admitted (put_points m) p (Ok q)) where
      admitted_named : Accepted m p
      admitted_named = point_accepted m d.is_sound p (found_free m d.is_sound p e.1)

      pub admitted_point : Accepted m q.point
      admitted_point = rw e.0 admitted_named

      taken : offer_line m line ≡ Ok (arrive m q.point)
      taken = rw e.0 (offer_is ∙ point_taken m d.is_sound p (found_free m d.is_sound p e.1))

      pub decided_accepted : {a : Arrival} {after : Map} {more : Hashes} → arrived a after ≡ arrive m q.point →
          more ≡ with_hash hashes q.point → DecidedLine m after more line (Ok a)
      unfolding arrival_of map_after
      decided_accepted {more = more} grown put =
          subst (λ (o : Offered). DecidedLine m o.map more line (Ok o.arrival)) (sym grown)
          (record {
            answered = ap arrival_of (sym taken);
            left = ap (map_after m) (sym taken);
            packable = arrive_packable admitted_point;
            is_sound = sound_grows d.is_sound admitted_point;
            all_hashed = rw put (grown_hashed d.is_sound admitted_point d.all_hashed);
          })

-- ---- one line after another

module _ {text answers : List ℕ} {m : Map} {hashes : Hashes} {n at : ℕ}
    (s : Surveying text m hashes answers n at) where
  module _ (there : at_end text at ≡ false) where
    before_end : at < length text
    unfolding at_end
    before_end = leb-false (length text) at there

    pub free : n < text_limit
    free = omega (arith, before_end, s.few, s.short)

    further : (at < next_line text at) × (next_line text at ≤ length text)
    further = next_further text at before_end

    module _ {line : Result Point Refusal} (here : line ≡ line_at text at) where
      pub decidable : Decidable m hashes line
      decidable =
          record {
            is_sound = s.is_sound;
            all_hashed = s.all_hashed;
            as_read = λ r e. line_at_refused text at r (sym here ∙ e);
          }

      -- the lines of the answers with this one, and the lines after it
      together_next : (a : Result Arrival Refusal) (after : Map) → a ≡ arrival_of (offer_line m line) →
          after ≡ map_after m (offer_line m line) → Packable a →
          answer_lines (set answers n (packed a)) (n + 1)
          ++ arrivals after (n + 1) (lines (drop (next_line text at) text))
          ≡ arrivals empty_map 0 (lines text)
      together_next a after answered left p =
          (λ i. (answer_more answers n (packed a) (omega (arith, s.whole, free))
          ∙ ap (λ (b : Result Arrival Refusal). answer_lines answers n ++ arrival_line n b)
          (unpacked_packed p)) i
          ++ arrivals after (add-one n i) (lines (drop (next_line text at) text)))
          ∙ append_assoc (answer_lines answers n) (arrival_line n a) _
          ∙ ap (λ (l : List ℕ). answer_lines answers n ++ l)
          (sym (report_goes_on m n text at there
          ∙ ap (λ (q : Result Offered Refusal). arrival_line n (arrival_of q)
          ++ arrivals (map_after m q) (suc n) (lines (drop (next_line text at) text)))
          (ap (offer_line m) (sym here))
          ∙ (λ i. arrival_line n (sym answered i)
          ++ arrivals (sym left i) (suc n) (lines (drop (next_line text at) text)))))
          ∙ s.together

      pub line_decided : {after : Map} {more : Hashes} {a : Result Arrival Refusal} →
          DecidedLine m after more line a →
          Surveying text after more (set answers n (packed a)) (n + 1) (next_line text at)
      line_decided {after = after} {a = a} d =
          record {
            is_sound = d.is_sound;
            all_hashed = d.all_hashed;
            together = together_next a after d.answered d.left d.packable;
            few = omega (arith, s.few, further.0);
            inside = further.1;
            short = s.short;
            whole = length-set answers n (packed a) ∙ s.whole;
          }

  -- ---- the end

  pub all_decided : at_end text at ≡ true → Surveys text m answers n
  all_decided e =
      record {
        is_sound = sound_shaped _ s.is_sound;
        whole = s.whole;
        lines_fit = omega (arith, s.few, s.inside, s.short);
        together =
            ap (λ (l : List ℕ). answer_lines answers n ++ l) (sym (report_ended m n text at e))
            ∙ s.together;
      }
