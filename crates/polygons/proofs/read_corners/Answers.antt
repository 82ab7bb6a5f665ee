-- `polygons::read_corners` meets its contract, by the word at the front of the text.
use Rattle.std.proofs.Common.{◌≡◌, refl, sym, ◌∙◌, Bool}
use Rattle.model.specs.Spelling.{bytes}
use Rattle.polygons.proofs.Held.{counted_read, ring_read, none_read, other_read, spells_none, spells_point, spells_line, spells_ring, spells_other}
use Rattle.polygons.proofs.read_corners.Goals as goal

-- what a test told of a word that was sought
told : {r t b : Bool} → r ≡ t → r ≡ b → t ≡ b
told e is = sym e ∙ is

pub returns-then-is_word : goal.returns-then-is_word
unfolding bytes
returns-then-is_word c = none_read c.requires (spells_none _ (told c.is_word.ensures c.if-is_word.true))

pub returns-then-starts_with : goal.returns-then-starts_with
unfolding bytes
returns-then-starts_with c =
    counted_read c.requires c.read_between.ensures 1 c.counted.ensures
    (spells_point _ (told c.is_word.ensures c.if-is_word.false)
    (told c.starts_with.ensures c.if-starts_with.true))

pub returns-then-starts_with-2 : goal.returns-then-starts_with-2
unfolding bytes
returns-then-starts_with-2 c =
    counted_read c.requires c.read_between-then-starts_with-2.ensures 2
    c.counted-then-starts_with-2.ensures
    (spells_line _ (told c.is_word.ensures c.if-is_word.false)
    (told c.starts_with.ensures c.if-starts_with.false)
    (told c.starts_with-2.ensures c.if-starts_with-2.true))

pub returns-then-starts_with-3 : goal.returns-then-starts_with-3
unfolding bytes
returns-then-starts_with-3 c =
    ring_read c.requires c.read_between-listed.ensures refl c.ring.ensures
    (spells_ring _ (told c.is_word.ensures c.if-is_word.false)
    (told c.starts_with.ensures c.if-starts_with.false)
    (told c.starts_with-2.ensures c.if-starts_with-2.false)
    (told c.starts_with-3.ensures c.if-starts_with-3.true))

pub returns : goal.returns
unfolding bytes
returns c =
    other_read
    (spells_other _ (told c.is_word.ensures c.if-is_word.false)
    (told c.starts_with.ensures c.if-starts_with.false)
    (told c.starts_with-2.ensures c.if-starts_with-2.false)
    (told c.starts_with-3.ensures c.if-starts_with-3.false))
