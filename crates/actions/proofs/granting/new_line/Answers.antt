use Rattle.std.proofs.Common.{sym, ap, ◌∙◌}
use Rattle.tables.specs.declared.request.Request.TheVariants.{Read}
use Rattle.model.specs.Bench.{granted_line}
use Rattle.actions.specs.Grants.{offered}
use Rattle.actions.proofs.Loads.{loaded_some, loaded_none, offered_read}
use Rattle.actions.proofs.granting.new_line.Goals as goal

pub returns-in-Ok : goal.returns-in-Ok
returns-in-Ok g c =
    let op = g.O.Operation.algebra in
    let xs = g.H.Home.meaning c.args.home.now in
    record {
      value = sym (offered_read op xs c.args.request c.in-Read.cell c.in-Read.is ∙ ap (λ u. offered (granted_line op (Read c.in-Read.cell) u)) (loaded_some xs c.in-Read.cell c.in-Ok.value c.in-Ok.ensures.value));
      home = c.load.ensures.after;
    }

pub returns-in-Err : goal.returns-in-Err
returns-in-Err g c =
    let op = g.O.Operation.algebra in
    let xs = g.H.Home.meaning c.args.home.now in
    record {
      value = sym (offered_read op xs c.args.request c.in-Read.cell c.in-Read.is ∙ ap (λ u. offered (granted_line op (Read c.in-Read.cell) u)) (loaded_none xs c.in-Read.cell c.in-Err.field-0 c.in-Err.ensures.value));
      home = c.load.ensures.after;
    }
