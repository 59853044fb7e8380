use Rattle.std.proofs.Common.{◌∙◌}
use Rattle.model.specs.declared.call.Call.TheVariants.{Post, Advance, Collect, Yield}
use Rattle.bench.specs.Lent.{seen, terms}
use Rattle.history.proofs.Opening.{kept_open, post_no_end, advance_no_end, collect_no_end, yield_no_end}
use Rattle.history.proofs.taking.take.Goals as goal

pub returns-in-Post-clause-held : goal.returns-in-Post-clause-held
returns-in-Post-clause-held g c = c.requires.held ∙ kept_open (terms g.O.Operation.algebra g.R.Victim.rule g.H.Home.meaning c.args.bench.now) (seen g.H.Home.meaning c.args.bench.now) (Post c.in-Post.party c.in-Post.request) c.post.ensures.state c.post.ensures.answer (post_no_end g.row.O-Value.Denot c.post.result)

pub returns-in-Advance-clause-held : goal.returns-in-Advance-clause-held
returns-in-Advance-clause-held g c = c.requires.held ∙ kept_open (terms g.O.Operation.algebra g.R.Victim.rule g.H.Home.meaning c.args.bench.now) (seen g.H.Home.meaning c.args.bench.now) (Advance c.in-Advance.cell) c.advance.ensures.state c.advance.ensures.answer (advance_no_end g.row.O-Value.Denot c.advance.result)

pub returns-in-Collect-clause-held : goal.returns-in-Collect-clause-held
returns-in-Collect-clause-held g c = c.requires.held ∙ kept_open (terms g.O.Operation.algebra g.R.Victim.rule g.H.Home.meaning c.args.bench.now) (seen g.H.Home.meaning c.args.bench.now) (Collect c.in-Collect.party) c.collect.ensures.state c.collect.ensures.answer (collect_no_end g.row.O-Value.Denot c.collect.result)

pub returns-in-Yield-clause-held : goal.returns-in-Yield-clause-held
returns-in-Yield-clause-held g c = c.requires.held ∙ kept_open (terms g.O.Operation.algebra g.R.Victim.rule g.H.Home.meaning c.args.bench.now) (seen g.H.Home.meaning c.args.bench.now) (Yield c.in-Yield.party c.in-Yield.cell) c.relinquish.ensures.state c.relinquish.ensures.answer (yield_no_end g.row.O-Value.Denot c.relinquish.result)
