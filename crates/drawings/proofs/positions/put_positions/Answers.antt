use mathlib.Core.List.{List, ◌++◌}
use Prim.Native.Nat.{ℕ}
use Rattle.model.specs.declared.Point.{Point}
use Rattle.model.specs.Outlines.{point_text, joined}
use Rattle.printing.specs.Writing.{Room, PutAt}
use Rattle.printing.proofs.Overwriting.{room_second, wrote_then}
use Rattle.drawings.proofs.Parts.{front_room, back_room, both_written}
use Rattle.drawings.proofs.Joined.{following, after_word, drawn_none, next_room, drawn_next, drawn_whole}
use Rattle.drawings.proofs.positions.put_positions.Goals as goal

-- what is written before the loop, and in it
module _ (word : List ℕ) (first : Point) (points : List Point) {lent : List ℕ} {at : ℕ}
    (r : Room lent at (word ++ joined first points)) where
  abbrev begun : List ℕ
  begun = word ++ point_text first

  room_begun : Room lent at begun
  room_begun = front_room begun (following points) (after_word word first points) r

  module _ {mid : List ℕ} {k : ℕ} (w : PutAt lent at word mid k) where
    room_position : Room mid k (point_text first)
    room_position = room_second w (point_text first) room_begun

    -- where the loop begins
    module _ {after : List ℕ} {k' : ℕ} (v : PutAt mid k (point_text first) after k') where
      wrote_begun : PutAt lent at begun after k'
      wrote_begun = wrote_then w room_begun v

      room_others : Room after k' (following points)
      room_others = back_room begun (following points) (after_word word first points) r wrote_begun

      written : {now : List ℕ} {end : ℕ} → PutAt after k' (following points) now end →
          PutAt lent at (word ++ joined first points) now end
      written u = both_written begun (following points) (after_word word first points) r wrote_begun u

pub put_position-end-requires : goal.put_position-end-requires
put_position-end-requires c =
    room_position c.args.word.now c.args.first _ c.requires c.put_word-position.ensures

pub loop-a-init : goal.loop-a-init
loop-a-init c = drawn_none _ _

pub put_next-end-requires : goal.put_next-end-requires
put_next-end-requires c =
    let a = c.args in
    next_room a.points.now a.others.now
    (room_others a.word.now a.first _ c.requires c.put_word-position.ensures c.put_position-end.ensures)
    c.loop-a.invariant c.loop-a-test.true c.point_in.ensures

pub loop-a-preserved : goal.loop-a-preserved
loop-a-preserved c =
    let a = c.args in
    drawn_next a.points.now a.others.now
    (room_others a.word.now a.first _ c.requires c.put_word-position.ensures c.put_position-end.ensures)
    c.loop-a.invariant c.loop-a-test.true c.point_in.ensures c.put_next-end.ensures

pub returns : goal.returns
returns c =
    let a = c.args in
    written a.word.now a.first _ c.requires c.put_word-position.ensures c.put_position-end.ensures
    (drawn_whole a.points.now a.others.now c.loop-a.invariant c.loop-a-test.false)
