-- How far each batch gets with the requests that wait.
use Rattle.std.specs.Prelude.{◌≡◌, ◌≢◌, ◌+◌, ◌<◌, List, ◌∷◌, length, take, slice_get, EachIndex, SomeIndex}
use Rattle.std.specs.List.{All}
use Rattle.std.specs.Option.{option_map}
use Rattle.aria_base.specs.Orders.{Cells, Database}
use Rattle.aria_base.specs.declared.keys.Key.{Key}
use Rattle.aria_base.specs.declared.calls.Request.{Request}
use Rattle.proc_lang.specs.declared.ends.End.{End}
use Rattle.batch_rules.specs.Trees.{Tree, end_of}
use Rattle.batch_core.specs.declared.answers.Reply.TheVariants.{Ended}
use Rattle.batch_core.specs.declared.answers.Answer.{Answer}
use Rattle.batch_core.specs.Steps.{State, Handed, list_of, step, answer, run}

-- The list's first request finishes, with its end on the start. Fewer wait than the list has; and since the next list begins with
-- them, each stands at a smaller place in it than in this list.
pub record IsProgress (tree : Request → Tree Key Cells End) (start : Database) (list : List Request) (answer : Answer)
    (next : State) : Type 0 where
  pub first : slice_get answer.lines 0
      ≡ option_map (λ request. record { q = request.q; reply = Ended (end_of (tree request) start) }) (slice_get list 0)
  pub fewer : length next.waiting < length list
  pub sooner : EachIndex next.waiting (λ i. SomeIndex list (λ j. (i < j) × (slice_get next.waiting i ≡ slice_get list j)))

-- no request that waits has this one's number
abbrev pub HasEnded : State → Request → Type 0
HasEnded state request = All (λ waiting. waiting.q ≢ request.q) state.waiting

module _ (tree : Request → Tree Key Cells End) where
  abbrev pub MakesProgress : State → Handed → Type 0
  MakesProgress state handed = IsProgress tree state.rows (list_of state handed) (answer tree state handed) (step tree state handed)

  -- of this batch's list the first request has ended after it, the first two after one batch more, and so on
  abbrev pub FinishesWithin : State → Handed → List Handed → Type 0
  FinishesWithin state handed rest = All (HasEnded (run tree state (handed ∷ rest))) (take (length rest + 1) (list_of state handed))
