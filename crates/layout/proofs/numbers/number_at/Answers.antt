use Rattle.std.proofs.Common.{◌≡◌, ◌∙◌, arith, List, ℕ, ◌+◌, ◌-◌, ◌<◌, ◌≤◌, length, get_or, take, drop, length-drop, length-take-le}
use lib.Seq.{get_or-take, get_or-drop}
use Rattle.layout.proofs.Loops.{no_byte_read, room, one_byte_read, all_bytes_read}
use Rattle.layout.proofs.numbers.number_at.Goals as goal
use Rattle.layout.proofs.numbers.number_at.Goals.{In-loop-byte}

-- the bytes that are lent to the loop
module _ (s : List ℕ) (at width : ℕ) (inside : at + width ≤ length s) where
  abbrev part : List ℕ
  part = take (at + width - at) (drop at s)

  part_length : length part ≡ width
  part_length =
      omega (arith, length-take-le (at + width - at) (drop at s) (omega (arith, length-drop at s)))

  part_byte : (i : ℕ) → i < width → get_or part i 0 ≡ get_or s (at + i) 0
  part_byte i h = get_or-take (at + width - at) (drop at s) i 0 (omega arith) ∙ get_or-drop at s i 0

-- at the head of the loop
more : (c : In-loop-byte) → c.loop-byte.byte-index < c.args.width
more c =
    let a = c.args in omega (arith, c.loop-byte-test.true, part_length a.file.now a.at a.width c.requires.0)

pub loop-byte-init : goal.loop-byte-init
loop-byte-init c = no_byte_read _ _

pub overflow_mul-number : goal.overflow_mul-number
overflow_mul-number c =
    let h = more (goal.at.overflow_mul-number c).In-loop-byte in
    omega (arith, room c.loop-byte.invariant (omega (arith, h, c.requires.1)))

pub overflow_add-number : goal.overflow_add-number
overflow_add-number c =
    let h = more (goal.at.overflow_add-number c).In-loop-byte in
    omega (arith, room c.loop-byte.invariant (omega (arith, h, c.requires.1)))

pub loop-byte-preserved : goal.loop-byte-preserved
loop-byte-preserved c =
    let a = c.args in
    let i = c.loop-byte.byte-index in
    let h = more (goal.at.loop-byte-preserved c).In-loop-byte in
    let byte = c.type_inv.file (a.at + i) in
    rw (c.from.ensures, part_byte a.file.now a.at a.width c.requires.0 i h)
    (one_byte_read c.loop-byte.invariant (omega arith))

pub returns : goal.returns
returns c =
    let a = c.args in
    let size = part_length a.file.now a.at a.width c.requires.0 in
    all_bytes_read c.loop-byte.invariant a.width
    (omega (arith, c.loop-byte-test.false, c.loop-byte.auto.byte-index-end, size))
