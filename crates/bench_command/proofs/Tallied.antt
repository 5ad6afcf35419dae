-- Tallies of lines behind others.
use Rattle.std.proofs.Common.{◌≡◌, ℕ, suc, ◌+◌, List, [], ◌∷◌, ◌++◌, Bool, cond, sym, ap, ◌∙◌, arith}
use Rattle.std.specs.Prelude.{count_by}
use Rattle.std.proofs.lemmas.List.Sums.{sum_by-append}
use Rattle.batch_core.specs.Serial.{is_wait}
use Rattle.batch_core.specs.declared.answers.Answer.{Answer}
use Rattle.batch_core.specs.declared.answers.Line.{Line}
use Rattle.batch_core.specs.declared.answers.Reply.{Reply}
use Rattle.batch_core.specs.declared.answers.Reply.TheVariants as reply
use Rattle.proc_lang.specs.declared.ends.End.TheVariants as end
use Rattle.bench_command.specs.declared.tallies.Tally.{Tally}
use Rattle.bench_command.specs.Tallies.{HasRoom, is_back, is_ok, is_trap, lines_of, noted, of_line, with_lines}

count_behind : (p : Line → Bool) (n : ℕ) (xs ys : List Line) → n + count_by p (xs ++ ys) ≡ n + count_by p xs + count_by p ys
count_behind p n xs ys = let both = sum_by-append (λ (x : Line). cond (p x) 1 0) xs ys in omega (arith, both)

pub with_lines-append : (tally : Tally) (xs ys : List Line) → with_lines tally (xs ++ ys) ≡ with_lines (with_lines tally xs) ys
with_lines-append tally xs ys = λ i. record {
  ok = count_behind (of_line is_ok) tally.ok xs ys i;
  back = count_behind (of_line is_back) tally.back xs ys i;
  trap = count_behind (of_line is_trap) tally.trap xs ys i;
  waits = count_behind (of_line is_wait) tally.waits xs ys i;
}

none_more : (n : ℕ) → n + 0 ≡ n
none_more n = omega arith

pub with_lines-none : (tally : Tally) → with_lines tally [] ≡ tally
with_lines-none tally = λ i. record {
  ok = none_more tally.ok i;
  back = none_more tally.back i;
  trap = none_more tally.trap i;
  waits = none_more tally.waits i;
}

-- the lines of one answer, and then those of the others
pub one_answer : (tally : Tally) (answer : Answer) (later : List Answer)
    → with_lines tally (lines_of ((answer ∷ []) ++ later)) ≡ with_lines (with_lines tally answer.lines) (lines_of later)
one_answer tally answer later = with_lines-append tally answer.lines (lines_of later)

-- ---- one line more

pub noted_by : (tally : Tally) (q : ℕ) (r : Reply) → noted tally r ≡ with_lines tally (record { q = q; reply = r } ∷ [])
noted_by tally q (reply.Ended (end.Done given)) = λ i. record {
  ok = tally.ok + 1;
  back = sym (none_more tally.back) i;
  trap = sym (none_more tally.trap) i;
  waits = sym (none_more tally.waits) i;
}
noted_by tally q (reply.Ended (end.Back code)) = λ i. record {
  ok = sym (none_more tally.ok) i;
  back = tally.back + 1;
  trap = sym (none_more tally.trap) i;
  waits = sym (none_more tally.waits) i;
}
noted_by tally q (reply.Ended (end.Trap trap)) = λ i. record {
  ok = sym (none_more tally.ok) i;
  back = sym (none_more tally.back) i;
  trap = tally.trap + 1;
  waits = sym (none_more tally.waits) i;
}
noted_by tally q (reply.Waits wait) = λ i. record {
  ok = sym (none_more tally.ok) i;
  back = sym (none_more tally.back) i;
  trap = sym (none_more tally.trap) i;
  waits = tally.waits + 1;
}

-- what is left of the lines is counted behind it
pub noted_on : (tally : Tally) (line : Line) (later all : List Line) → all ≡ line ∷ later → with_lines (noted tally line.reply) later ≡ with_lines tally all
noted_on tally line later all same =
    ap (λ (t : Tally). with_lines t later) (noted_by tally line.q line.reply)
    ∙ sym (with_lines-append tally (line ∷ []) later)
    ∙ ap (with_lines tally) (sym same)

-- and there is room for it
pub room_on : (tally : Tally) (r : Reply) (n m : ℕ) → n ≡ suc m → HasRoom tally n → HasRoom (noted tally r) m
room_on tally (reply.Ended (end.Done given)) n m same h = record {
  ok = omega (arith, h.ok, same);
  back = omega (arith, h.back, same);
  trap =
      omega (arith, h.trap, same);
  waits = omega (arith, h.waits, same);
}
room_on tally (reply.Ended (end.Back code)) n m same h = record {
  ok = omega (arith, h.ok, same);
  back = omega (arith, h.back, same);
  trap =
      omega (arith, h.trap, same);
  waits = omega (arith, h.waits, same);
}
room_on tally (reply.Ended (end.Trap trap)) n m same h = record {
  ok = omega (arith, h.ok, same);
  back = omega (arith, h.back, same);
  trap =
      omega (arith, h.trap, same);
  waits = omega (arith, h.waits, same);
}
room_on tally (reply.Waits wait) n m same h = record {
  ok = omega (arith, h.ok, same);
  back = omega (arith, h.back, same);
  trap = omega (arith, h.trap, same);
  waits = omega (arith, h.waits, same);
}

pub room_one : (tally : Tally) (n m : ℕ) → n ≡ suc m → HasRoom tally n → HasRoom tally 1
room_one tally n m same h = record {
  ok = omega (arith, h.ok, same);
  back = omega (arith, h.back, same);
  trap = omega (arith, h.trap, same);
  waits =
      omega (arith, h.waits, same);
}
