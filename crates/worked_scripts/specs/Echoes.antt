-- What each line of a script prints that is answered by a word.
use Rattle.std.specs.Prelude.{ℕ, List, codes, Ok, Err}
use Rattle.script_text.specs.Lines.{line_after}
use Rattle.script_course.specs.Courses.{Course, Goes, Stops}
use Rattle.answer_text.specs.Refusals.{refusal_text}
use Rattle.script_places.specs.Places.{Asked, asked}
use Rattle.script_places.specs.declared.deeds.Deed.{Deed}
use Rattle.script_places.specs.declared.deeds.Deed.TheVariants as deed
use Rattle.worked_scripts.specs.declared.echoes.Echo.{Echo}

abbrev pub word_of : Deed → List ℕ
word_of deed.Nothing = codes "nothing "
word_of (deed.Put key row) = codes "put "
word_of (deed.Call call) = codes "call "
word_of (deed.Set rule percent) = codes "set "
word_of (deed.Keep number) = codes "keep "
word_of deed.Run = codes "run "
word_of deed.Tell = codes "tell "

abbrev pub answered : Echo → Asked → Course Echo
answered e (Ok told) = Goes (word_of told.1) (record e { place = told.0 })
answered e (Err kind) = Stops (refusal_text (record { line = line_after e.place.lines; kind = kind }))

abbrev pub echo_line : Echo → List ℕ → Course Echo
echo_line e line = answered e (asked e.place e.counts line)
