-- `deciding::decide_line` meets its contract: the line is refused, or its point is, or the point is put into
-- the map.
use native.Mathlib.Omega.{arith}
use Rattle.hull.proofs.Sound.{sound_shaped}
use Rattle.deciding.proofs.Verdicts.{passed_up}
use Rattle.deciding.proofs.Decisions.{decided_malformed, decided_not_admitted, admitted_point, decided_accepted}
use Rattle.deciding.proofs.decide_line.Goals as goal

pub returns-in_err-line : goal.returns-in_err-line
returns-in_err-line c =
    rw (passed_up _ _ c.from_residual.ensures.1) (decided_malformed c.requires c.in_err-line.was)

pub shared_ref_as_front-admission_hashed : goal.shared_ref_as_front-admission_hashed
shared_ref_as_front-admission_hashed c = omega (arith, (sound_shaped _ c.requires.is_sound).links.fits)

pub returns-in_err-p : goal.returns-in_err-p
returns-in_err-p c =
    rw (passed_up _ _ c.from_residual-in_err-p.ensures.1)
    (decided_not_admitted c.requires c.in_ok-line.was c.in_err-p.ensures)

pub grow-arrival-requires : goal.grow-arrival-requires
grow-arrival-requires c = admitted_point c.requires c.in_ok-line.was c.in_ok-p.p c.in_ok-p.ensures

pub returns : goal.returns
returns c =
    decided_accepted c.requires c.in_ok-line.was c.in_ok-p.p c.in_ok-p.ensures c.grow-arrival.ensures
    c.put.ensures
