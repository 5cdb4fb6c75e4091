-- What is played of the bytes held is the page.
use native.Mathlib.Omega.{arith}
use Rattle.sheet.proofs.Paging.{page}
use Rattle.sheet.proofs.pages.play_page.Goals as goal

pub returns-clause-plays : goal.returns-clause-plays
returns-clause-plays c =
    let a = c.args in
    let called = c.play-p in
    let e = called.ensures in
    let w = e.within (record { read = omega arith; next = omega arith }) in
    let laws = page a.r a.bytes.now a.nodes.now a.versions.now a.tally.now a.out.now
    called.new.nodes called.new.versions called.new.tally called.new.out
    called.result e.plays c.requires.in_buffer w c.requires.longest_command_in_bounds in
    laws.0

pub returns-clause-ready : goal.returns-clause-ready
returns-clause-ready c =
    let a = c.args in
    let called = c.play-p in
    let e = called.ensures in
    let w = e.within (record { read = omega arith; next = omega arith }) in
    let laws = page a.r a.bytes.now a.nodes.now a.versions.now a.tally.now a.out.now
    called.new.nodes called.new.versions called.new.tally called.new.out
    called.result e.plays c.requires.in_buffer w c.requires.longest_command_in_bounds in
    laws.1
