-- Instructions that have as many branches as they say.
use Rattle.std.specs.Prelude.{◌≡◌, length}
use Rattle.om_code.specs.declared.code.Instr.{Instr}
use Rattle.om_code.specs.declared.code.Instr.TheVariants.{Load, Fuse, Prop, Key}
use Rattle.om_legs.specs.BranchNodes.{nodes_of}

abbrev pub CountsNodes : Instr → Type 0
CountsNodes (Load to leg) = Unit {0}
CountsNodes (Fuse to minus vertex choice b) = b.count ≡ length (nodes_of b)
CountsNodes (Prop of den) = Unit {0}
CountsNodes (Key flow minus vertex choice b) = b.count ≡ length (nodes_of b)
