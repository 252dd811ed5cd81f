use Rattle.std.proofs.Common.{refl}
use Rattle.profile.proofs.Courses.{sound}
use Rattle.profile.proofs.Travels.{followed}
use Rattle.profile.specs.Course.{course}
use Rattle.profile.specs.Ramp.{descent, greatest_above, next_size, stopping_distance}
use Rattle.profile.proofs.course_stands.Goals as goal

pub returns : goal.returns
unfolding course next_size greatest_above stopping_distance descent
returns c = record {
  sound = sound;
  followed = followed;
  figures = record { move_1 = refl; move_2 = refl; move_3 = refl; move_4 = refl; move_5 = refl; there = refl; late = refl };
}
