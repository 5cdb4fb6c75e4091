-- The node found is in use, and its newest version is tested as the definition tests it.
use Rattle.std.proofs.Common.{rules, tests, ◌≡◌, arith, true, false}
use borrow.Author.Tests.{ne_eqb}
use Rattle.model.specs.Calls.{find_from, look_by, look_node}
use Rattle.model.specs.Phases.{used_version}
use Rattle.tables.specs.Room.{memory}
use Rattle.queries.proofs.LookTurns.{node_none, node_some, find_within}
use Rattle.queries.proofs.look.look_granted.Goals as goal

pub returns-in_err-node : goal.returns-in_err-node
unfolding look_by look_node
returns-in_err-node c =
    let a = c.args in
    simp (node_none (find_from a.nodes.now a.key a.counts.nodes 1) c.find.ensures (search rules)) (search rules)

pub newest_at-newest-requires : goal.newest_at-newest-requires
newest_at-newest-requires c =
    let a = c.args in
    let found = node_some (find_from a.nodes.now a.key a.counts.nodes 1) c.in_ok-node.node c.find.ensures (search rules) in
    omega (arith, found.0, find_within a.nodes.now a.key a.counts.nodes 1 (omega arith), c.requires.node)

pub returns-then-not-contains : goal.returns-then-not-contains
unfolding look_by look_node
returns-then-not-contains c =
    let a = c.args in
    let x = c.in_ok-node.node in
    let found = node_some (find_from a.nodes.now a.key a.counts.nodes 1) x c.find.ensures (search rules) in
    let unused : used_version (memory a.nodes.now a.versions.now a.counts) c.newest_at-newest.result ≡ false = search (rules, tests) in
    simp (← found.0, ne_eqb x 0 (omega (arith, found.1)), ← c.newest_at-newest.ensures, unused)

pub returns : goal.returns
unfolding look_by look_node
returns c =
    let a = c.args in
    let x = c.in_ok-node.node in
    let found = node_some (find_from a.nodes.now a.key a.counts.nodes 1) x c.find.ensures (search rules) in
    let used : used_version (memory a.nodes.now a.versions.now a.counts) c.newest_at-newest.result ≡ true = search (rules, tests) in
    simp (← found.0, ne_eqb x 0 (omega (arith, found.1)), ← c.newest_at-newest.ensures, used) c.version_back.ensures
