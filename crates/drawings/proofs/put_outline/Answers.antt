-- `drawings::put_outline` meets its contract, by the number of corners: what opens the positions,
-- the positions and what closes them.
use mathlib.Core.Path.{◌≡◌}
use mathlib.Core.List.{List, ◌++◌}
use Prim.Native.Nat.{ℕ, ◌≤◌}
use native.Mathlib.Omega.{arith}
use lib.ListN.{length, get_or}
use Rattle.model.specs.declared.Point.{Point}
use Rattle.model.specs.Spelling.{bytes}
use Rattle.model.specs.Maps.{point_in}
use Rattle.model.specs.Outlines.{outline_text, joined}
use Rattle.printing.specs.Writing.{Room, PutAt}
use Rattle.printing.proofs.Overwriting.{room_first, room_second, room_as, wrote_then, wrote_as}
use Rattle.drawings.specs.Positions.{points_at, next_text}
use Rattle.drawings.proofs.Parts.{front_room, back_room, both_written}
use Rattle.drawings.proofs.Outlines.{others, text_none, text_one, text_two, text_more}
use Rattle.drawings.proofs.put_outline.Goals as goal

-- ---- no corner

pub put_word-requires : goal.put_word-requires
unfolding bytes
put_word-requires c =
    room_as (text_none c.args.points.now c.args.corners.now c.if-count-eq0.true) c.requires

pub returns-then-count-eq0 : goal.returns-then-count-eq0
unfolding bytes
returns-then-count-eq0 c =
    wrote_as (text_none c.args.points.now c.args.corners.now c.if-count-eq0.true) c.put_word.ensures

-- ---- some corners: the first was read, and the others are lent

module _ (ps : List Point) (corners : List ℕ) {first : Point}
    (read : first ≡ point_in ps (get_or corners 0 0)) where
  -- a word, and then the positions
  abbrev opened : List ℕ → List ℕ
  opened word = word ++ joined first (points_at ps (others corners))

  module _ {lent : List ℕ} {at : ℕ} (r : Room lent at (outline_text (points_at ps corners))) where
    -- ---- one corner

    module _ (one : length corners ≡ 1) where
      point_room : Room lent at (opened (bytes "POINT ("))
      point_room = front_room (opened (bytes "POINT (")) (bytes ")") (text_one ps corners read one) r

      module _ {mid : List ℕ} {k : ℕ} (w : PutAt lent at (opened (bytes "POINT (")) mid k) where
        point_end : Room mid k (bytes ")")
        point_end = back_room (opened (bytes "POINT (")) (bytes ")") (text_one ps corners read one) r w

        point_written : {now : List ℕ} {end : ℕ} → PutAt mid k (bytes ")") now end →
            PutAt lent at (outline_text (points_at ps corners)) now end
        point_written v =
            both_written (opened (bytes "POINT (")) (bytes ")") (text_one ps corners read one) r w v

    -- ---- two corners

    module _ (two : length corners ≡ 2) where
      line_room : Room lent at (opened (bytes "LINESTRING ("))
      line_room = front_room (opened (bytes "LINESTRING (")) (bytes ")") (text_two ps corners read two) r

      module _ {mid : List ℕ} {k : ℕ} (w : PutAt lent at (opened (bytes "LINESTRING (")) mid k) where
        line_end : Room mid k (bytes ")")
        line_end = back_room (opened (bytes "LINESTRING (")) (bytes ")") (text_two ps corners read two) r w

        line_written : {now : List ℕ} {end : ℕ} → PutAt mid k (bytes ")") now end →
            PutAt lent at (outline_text (points_at ps corners)) now end
        line_written v =
            both_written (opened (bytes "LINESTRING (")) (bytes ")") (text_two ps corners read two) r w v

    -- ---- three corners or more: the first one again, and then two brackets

    module _ (three : 3 ≤ length corners) where
      abbrev polygon : List ℕ
      polygon = opened (bytes "POLYGON ((")

      abbrev again : List ℕ
      again = next_text first

      room_ring : Room lent at (polygon ++ again)
      room_ring = front_room (polygon ++ again) (bytes "))") (text_more ps corners read three) r

      polygon_room : Room lent at polygon
      polygon_room = room_first polygon again room_ring

      module _ {mid : List ℕ} {k : ℕ} (w : PutAt lent at polygon mid k) where
        again_room : Room mid k again
        again_room = room_second {s = polygon} w again room_ring

        module _ {closed : List ℕ} {k' : ℕ} (v : PutAt mid k again closed k') where
          ring_written : PutAt lent at (polygon ++ again) closed k'
          ring_written = wrote_then {s = polygon} w room_ring v

          polygon_end : Room closed k' (bytes "))")
          polygon_end =
              back_room (polygon ++ again) (bytes "))") (text_more ps corners read three) r ring_written

          polygon_written : {now : List ℕ} {end : ℕ} → PutAt closed k' (bytes "))") now end →
              PutAt lent at (outline_text (points_at ps corners)) now end
          polygon_written u =
              both_written (polygon ++ again) (bytes "))") (text_more ps corners read three) r
              ring_written u

pub put_positions-end-requires : goal.put_positions-end-requires
unfolding bytes
put_positions-end-requires c =
    point_room c.args.points.now c.args.corners.now c.point_in-first.ensures c.requires
    c.if-count-eq1.true

pub put_byte-requires : goal.put_byte-requires
unfolding bytes
put_byte-requires c =
    point_end c.args.points.now c.args.corners.now c.point_in-first.ensures c.requires
    c.if-count-eq1.true c.put_positions-end.ensures

pub returns-then-count-eq1 : goal.returns-then-count-eq1
unfolding bytes
returns-then-count-eq1 c =
    point_written c.args.points.now c.args.corners.now c.point_in-first.ensures c.requires
    c.if-count-eq1.true c.put_positions-end.ensures c.put_byte.ensures

pub put_positions-end-requires-then-count-eq2 : goal.put_positions-end-requires-then-count-eq2
unfolding bytes
put_positions-end-requires-then-count-eq2 c =
    line_room c.args.points.now c.args.corners.now c.point_in-first.ensures c.requires
    c.if-count-eq2.true

pub put_byte-requires-then-count-eq2 : goal.put_byte-requires-then-count-eq2
unfolding bytes
put_byte-requires-then-count-eq2 c =
    line_end c.args.points.now c.args.corners.now c.point_in-first.ensures c.requires
    c.if-count-eq2.true c.put_positions-end-then-count-eq2.ensures

pub returns-then-count-eq2 : goal.returns-then-count-eq2
unfolding bytes
returns-then-count-eq2 c =
    line_written c.args.points.now c.args.corners.now c.point_in-first.ensures c.requires
    c.if-count-eq2.true c.put_positions-end-then-count-eq2.ensures c.put_byte-then-count-eq2.ensures

pub put_positions-end-requires-2 : goal.put_positions-end-requires-2
unfolding bytes
put_positions-end-requires-2 c =
    polygon_room c.args.points.now c.args.corners.now c.point_in-first.ensures c.requires
    (omega arith)

pub put_next-closed-requires : goal.put_next-closed-requires
unfolding bytes
put_next-closed-requires c =
    again_room c.args.points.now c.args.corners.now c.point_in-first.ensures c.requires
    (omega arith)
    c.put_positions-end-2.ensures

pub put_word-requires-2 : goal.put_word-requires-2
unfolding bytes
put_word-requires-2 c =
    polygon_end c.args.points.now c.args.corners.now c.point_in-first.ensures c.requires
    (omega arith)
    c.put_positions-end-2.ensures c.put_next-closed.ensures

pub returns : goal.returns
unfolding bytes
returns c =
    polygon_written c.args.points.now c.args.corners.now c.point_in-first.ensures c.requires
    (omega arith)
    c.put_positions-end-2.ensures c.put_next-closed.ensures c.put_word-2.ensures
