use Rattle.std.proofs.Common.{◌≡◌, ℕ, ◌+◌, List, [], ◌∷◌, ◌++◌, drop, get_or, map, Some, None, Bor, ap, sym, ◌∙◌}
use Rattle.std.specs.Prelude.{option_copied, if◌then◌else◌}
use Rattle.std.specs.Map.Iter.{deref}
use Rattle.std.specs.Str.{bytes_eq}
use Rattle.std.proofs.lemmas.List.{drop_more, map-append}
use Rattle.serial_check.specs.Orders.{named_after, unnamed}
use Rattle.serial_check.proofs.OrderSteps.{goes_on, stops, taken}
use Rattle.serial_check.proofs.orders.named.Goals as goal

abbrev nothing : Bor (List ℕ)
nothing = record { ref_ptr = (0, 0); now = [] }

pub loop-token-preserved : goal.loop-token-preserved
loop-token-preserved c =
    let list = c.args.list.now in
    let tokens = c.args.tokens.now in
    let i = c.loop-token.token-index in
    let token = (get_or tokens i nothing).now in
    let named = map deref c.loop-token.order.items in
    let request = c.in-Some.request.now in
    let found : unnamed list named token ≡ Some request = sym (c.loop-token.invariant.left token) ∙ sym c.in_ok-request.ensures.found
    ∙ ap option_copied c.in-Some.is in
    let pushed : map deref c.push.new.self.items ≡ named ++ request ∷ [] = ap (map deref) c.in_ok-push-in-Some.ensures.items
    ∙ map-append deref c.loop-token.order.items (c.in-Some.request ∷ []) in
    record {
      tokens = ap (λ order. named_after list order (map deref (drop (i + 1) tokens))) pushed
          ∙ goes_on list named request token (map deref (drop (i + 1) tokens)) found
          ∙ ap (λ rest. named_after list named (map deref rest)) (sym (drop_more tokens i nothing c.loop-token-test.true))
          ∙ c.loop-token.invariant.tokens;
      left = λ other. taken list named request token other _ found (c.in_ok-request.ensures.left other
          ∙ ap (λ was. if bytes_eq token other then None else was) (c.loop-token.invariant.left other))
          ∙ ap (λ order. unnamed list order other) (sym pushed);
    }

pub returns-in-None : goal.returns-in-None
returns-in-None c =
    let list = c.args.list.now in
    let tokens = c.args.tokens.now in
    let i = c.loop-token.token-index in
    let token = (get_or tokens i nothing).now in
    let named = map deref c.loop-token.order.items in
    let found : unnamed list named token ≡ None = sym (c.loop-token.invariant.left token) ∙ sym c.in_ok-request.ensures.found ∙ ap option_copied c.in-None.is in
    sym (sym c.loop-token.invariant.tokens
    ∙ ap (λ rest. named_after list named (map deref rest)) (drop_more tokens i nothing c.loop-token-test.true)
    ∙ stops list named token (map deref (drop (i + 1) tokens)) found)
