use Rattle.std.proofs.Common.{refl}
use Rattle.printer.proofs.Writing.{text_put}
use Rattle.printer.proofs.text.put_text.Goals as goal

pub returns : goal.returns
returns c = rw (c.copy_from_slice.ensures.after, c.as_bytes.ensures.value) (text_put c.args.out.now c.args.text.now c.args.at _ refl c.requires)
