use Rattle.std.proofs.Common.{rules, ◌≡◌, ◌-◌, length, take, drop, not, sym, ◌∙◌, arith, length-drop}
use Rattle.std.proofs.lemmas.Iterator.{YieldsList-from_slice}
use Rattle.std.proofs.lemmas.Iterator.Search.{position_from_yields_List}
use Rattle.std.proofs.lemmas.List.{take_all}
use Rattle.histories.specs.Tokens.{blank}
use Rattle.histories.proofs.Scanning.{no_token, token_cut}
use Rattle.histories.proofs.token.next_token.Goals as goal

pub returns-in_err-start-clause-cut : goal.returns-in_err-start-clause-cut
returns-in_err-start-clause-cut c =
    let text = c.args.text.now in
    let start = position_from_yields_List (λ b. not (blank b)) _ _ c.position.result c.position.ensures.ran (YieldsList-from_slice text cc) (λ x b q k. search rules) in
    rw c.from_residual.ensures (no_token text (sym start ∙ c.in_err-start.was))

pub returns-clause-cut : goal.returns-clause-cut
returns-clause-cut c =
    let text = c.args.text.now in
    let i = c.in_ok-start.start in
    let rest : take (length text - i) (drop i text) ≡ drop i text = take_all (length text - i) (drop i text) (omega (arith, length-drop i text)) in
    let start = position_from_yields_List (λ b. not (blank b)) _ _ c.position.result c.position.ensures.ran (YieldsList-from_slice text cc) (λ x b q k. search rules) in
    let end = position_from_yields_List blank _ _ c.position-end.result c.position-end.ensures.ran (YieldsList-from_slice (drop i text) (c.iter-2.ensures.rest ∙ rest)) (λ x b q k. search rules) in
    rw (c.split_at.ensures.front, c.split_at.ensures.back, rest) (token_cut text i c.unwrap_or.result (sym start ∙ c.in_ok-start.was) (rw (← end, ← rest) c.unwrap_or.ensures))
