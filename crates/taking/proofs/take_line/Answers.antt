-- `taking::take_line` meets its contract: what the line says tells which of the adds was called. Assumes nothing.
use Rattle.std.proofs.lemmas.Result.{err_from_is_err_and}
use Rattle.taking.proofs.Steps.{took_message, no_message, took_signal, took_route, no_route, took_none}
use Rattle.taking.proofs.take_line.Goals as goal

pub returns-in_err-add_message-in-Message : goal.returns-in_err-add_message-in-Message
returns-in_err-add_message-in-Message c = λ b k.
    let p = err_from_is_err_and c.from_residual.result c.from_residual.ensures.1 in
    rw (p.1, p.2) (no_message b _ _ c.in-Message.is (c.in_err-add_message-in-Message.ensures b k.holds))

pub returns-in_ok-add_message-in-Message : goal.returns-in_ok-add_message-in-Message
returns-in_ok-add_message-in-Message c = λ b k. took_message b _ _ c.in-Message.is (c.in_ok-add_message-in-Message.ensures b k.holds) c.new.ensures

pub returns-in-Signal : goal.returns-in-Signal
returns-in-Signal c = λ b k. took_signal b _ _ _ c.in-Signal.is (c.add_signal.ensures b k)

pub returns-in_err-add_route-in-Route : goal.returns-in_err-add_route-in-Route
returns-in_err-add_route-in-Route c = λ b k.
    let p = err_from_is_err_and c.from_residual-in_err-add_route-in-Route.result c.from_residual-in_err-add_route-in-Route.ensures.1 in
    rw (p.1, p.2) (no_route b _ _ _ _ _ c.in-Route.is (c.in_err-add_route-in-Route.ensures b k.holds))

pub returns-in_ok-add_route-in-Route : goal.returns-in_ok-add_route-in-Route
returns-in_ok-add_route-in-Route c = λ b k. took_route b c.args.filled _ _ _ _ c.in-Route.is (c.in_ok-add_route-in-Route.ensures b k.holds) k.fills

pub returns-in-IllFormed : goal.returns-in-IllFormed
returns-in-IllFormed c = λ b k. took_none b c.in-IllFormed.is k.holds
