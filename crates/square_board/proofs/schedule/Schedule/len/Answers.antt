use Rattle.std.proofs.Common.{◌≤◌, ◌*◌, suc, length, subst, arith}
use Rattle.board_core.specs.Machine.{opening}
use Rattle.board_core.proofs.Short.{history_is_short, range_is_all}
use Rattle.square_board.specs.Courses.{Course, state_of}
use Rattle.square_board.specs.Inside.Schedules.{course_of}
use Rattle.square_board.proofs.schedule.Schedule.len.Goals as goal

pub returns-clause-short : goal.returns-clause-short
returns-clause-short c =
    let inside = c.self.inside in
    let course = course_of inside.core inside.start inside.history.items in
    let short = history_is_short course.bottom course.shape course.rows course.degrees course.start course.history (state_of course) c.self.invariant.legal in
    let all = range_is_all (opening course.bottom course.shape course.rows course.degrees course.start) in
    let here : length course.history ≤ 2 * (suc course.rows * suc course.degrees) = omega arith in
    subst (λ (d : Course). length d.history ≤ 2 * (suc d.rows * suc d.degrees)) c.self.view_is here
