use Rattle.std.proofs.Common.{◌∙◌, ap, sym, length}
use Rattle.om_keystone.proofs.Steps.{low_numbers}
use Rattle.om_keystone.proofs.pruned.marked_part.Goals as goal

pub marked_nodes-requires : goal.marked_nodes-requires
marked_nodes-requires c = record { same_length = c.requires.same_length ∙ sym (ap length c.as_slice.ensures) }

pub marked_terms-requires : goal.marked_terms-requires
marked_terms-requires c = record { low = low_numbers c.as_slice-2.result.now c.args.marks.now (c.as_slice-2.ensures.value ∙ c.in_ok-numbers.ensures.numbers) }

pub renumbered_keys-requires : goal.renumbered_keys-requires
renumbered_keys-requires c = record { low = low_numbers c.as_slice-4.result.now c.args.marks.now (c.as_slice-4.ensures.value ∙ c.in_ok-numbers.ensures.numbers) }
