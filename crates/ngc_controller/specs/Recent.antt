-- The latest replies, with the quiet ones counted. Our own.
use Rattle.std.specs.Prelude.{ℕ, List, [], ◌∷◌, ◌++◌, replicate, flat_map, None}
use Rattle.circular_buffer.specs.Buffer.{keep_last}
use Rattle.ngc_events.specs.declared.reply.Reply.{Reply}
use Rattle.ngc_events.specs.declared.reply.Reply.TheVariants.{Ticked}
use Rattle.ngc_controller.specs.declared.recent.CountedReply.{CountedReply}
use Rattle.ngc_controller.specs.Controller.{KEPT}

-- a reply after the quiet ones before it
abbrev pub with_quiet : CountedReply → List Reply
with_quiet t = replicate t.before (Ticked None None) ++ t.reply ∷ []

abbrev pub replies : List CountedReply → List Reply
replies told = flat_map with_quiet told

-- the stored replies, with this number of quiet ones at the end
abbrev pub latest : List CountedReply → ℕ → List Reply
latest told quiet = keep_last KEPT (replies told ++ replicate quiet (Ticked None None))
