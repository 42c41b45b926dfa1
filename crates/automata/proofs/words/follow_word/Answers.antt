use Rattle.std.proofs.Common.{ℕ, sym, subst, below_more}
use Rattle.automata.specs.Words.{Word}
use Rattle.automata.proofs.Following.{follow_step, follow_end, follow_within, letters_word}
use Rattle.automata.proofs.words.follow_word.Goals as goal

pub loop-index-preserved : goal.loop-index-preserved
loop-index-preserved g c =
    let m = g.A.Automaton.meaning c.args.rule.now in (
      below_more _ _ c.loop-index.invariant.0 c.if-letter-letters.false,
      follow_step m m.start c.args.word.now c.loop-index.index c.loop-index.state c.next-state.result
          c.loop-index-test.true c.loop-index.invariant.1 c.next-state.ensures,
    )

pub returns : goal.returns
returns g c =
    let m = g.A.Automaton.meaning c.args.rule.now in
    let w = c.args.word.now in
    let sound = g.met.A.Automaton.sound c.args.rule.now in
    let letters = subst (λ (k : ℕ). Word k w) c.letters-letters.ensures (letters_word c.letters-letters.result w c.loop-index.index c.loop-index-test.false c.loop-index.invariant.0) in
    let is = follow_end m m.start w c.loop-index.index c.loop-index.state c.loop-index-test.false c.loop-index.invariant.1 in
    record {
      ends = (letters, is);
      reached = (record { word = w; letters = letters; ends = sym is }, rw is (follow_within m sound m.start w letters sound.start_within));
    }
