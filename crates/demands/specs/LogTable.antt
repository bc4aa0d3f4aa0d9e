-- 01, 'The log', and 02, item 8, computed: the records of 32, 47 and 48 bytes at R - 1, R and R + 1 changes, their causes, ticks and words, emptying.
use Rattle.std.specs.Prelude.{List, [], ◌∷◌, ◌++◌, replicate}
use Rattle.controller.specs.Refusals.{power_on}
use Rattle.demands.specs.Exchanges.{Point, point, with_room, ◌⇒◌, ◌⇒◌runs◌, try, empties, holds, alters, at_tick, at_lost, change, gap, blank, log}
use Rattle.demands.specs.CallsTable.{lent}

unfoldable pub logs : List Point
logs =
    -- R = 2: "With fewer than R changes since emptying, all stand there. From the R-th on, the last place is kind 2: cause 0, [...] value the
    -- number lost." "The gap's tick is now that of the first lost change", its last word "the output word after the last lost change". Emptied twice, and
    -- "the room is used again"; the first earlier word is the last word of the log before it, also behind a gap.
    with_room 32 (
    empties []
    ∷ "CW20601^" ⇒ "OK^"
    ∷ holds log 0 (change 255 0 1 0 ++ replicate 16 blank)
    ∷ empties (change 255 0 1 0)
    ∷ empties []
    ∷ "#CW20602^#CW20603^#" ⇒ "OK^OK^"
    ∷ empties (change 255 1 2 1 ++ gap 2 1 3)
    -- "It changes no byte of the log, nor does power-on"
    ∷ holds log 0 (change 255 1 2 1 ++ gap 2 1 3)
    ∷ "#CW20604^#CW20605^#CW20606^#" ⇒ "OK^OK^OK^"
    ∷ empties (change 255 4 4 3 ++ gap 5 2 6)
    ∷ try power_on (lent 1600 1600 32 0) 0
    ∷ holds log 0 (change 255 4 4 3 ++ gap 5 2 6)
    ∷ empties []
    -- changes lost that lead back to the word before them; then a gap begins anew
    ∷ "CW20601^#CW20602^#CW20601^#" ⇒ "OK^OK^OK^"
    ∷ empties (change 255 0 1 0 ++ gap 1 2 1)
    ∷ "CW20602^#CW20603^" ⇒ "OK^OK^"
    ∷ empties (change 255 3 2 1 ++ gap 4 1 3)
    ∷ []
    )
    -- "The area holds R whole [16]-byte records": of 47 bytes, two; the bytes behind them stay
    ∷ with_room 47 (
    "CW20601^CW20602^" ⇒ "OK^OK^"
    ∷ empties (change 255 0 1 0 ++ gap 0 1 2)
    ∷ holds log 32 (replicate 15 blank)
    ∷ "CW20601^CW20602^CW20603^CW20604^" ⇒ "OK^OK^OK^OK^"
    ∷ empties (change 255 0 1 2 ++ gap 0 3 4)
    ∷ []
    )
    -- R = 3
    ∷ with_room 48 (
    "CW20601^#CW20602^" ⇒ "OK^OK^"
    ∷ holds log 32 (replicate 16 blank)
    ∷ empties (change 255 0 1 0 ++ change 255 1 2 1)
    ∷ "CW20603^#CW20604^#CW20605^" ⇒ "OK^OK^OK^"
    ∷ empties (change 255 1 3 2 ++ (change 255 2 4 3 ++ gap 3 1 5))
    ∷ "CW20606^#CW20607^#CW20608^##CW20609^" ⇒ "OK^OK^OK^OK^"
    ∷ empties (change 255 3 6 5 ++ (change 255 4 7 6 ++ gap 5 2 9))
    ∷ empties []
    ∷ []
    )
    -- "Kind 1: value is the new word; cause is the line, 254 for command 006, 255 for a write to 203-206.", and "the word before the change"
    ∷ with_room 160 (
    "CW000F10002^CW001S00000000010002^CW002N1^CW003S00000000020001^CW004S00000000030000^" ⇒ "OK^OK^OK^OK^OK^"
    -- a start by button, by 003 and by 005, and lines due in a tick; paused ticks count too
    ∷ "!" ⇒ "" runs 1
    ∷ "##%##%##CW210001^" ⇒ "OK^" runs 2
    ∷ empties (change 1 0 1 0 ++ change 3 6 2 1)
    ∷ "CW20600^CW210003^CW210001^" ⇒ "OK^OK^OK^" runs 1
    ∷ "CW209003^CW210005^#CR212^" ⇒ "OK^OK^011^"
    ∷ empties (change 255 6 0 2 ++ (change 1 6 1 0 ++ (change 3 6 2 1 ++ change 4 7 3 2)))
    ∷ "CW210006^CW209200^CW200S00000000050009^CW210006^" ⇒ "OK^OK^OK^OK^"
    ∷ empties (change 254 7 2 3 ++ change 254 7 5 2)
    ∷ "CW20600^CW20301^CW20402^CW20503^CW20604^" ⇒ "OK^OK^OK^OK^OK^"
    ∷ empties (
    change 255 7 0 5
    ++ (0x1E ∷ 0xE2 ∷ 1 ∷ 255 ∷ 0 ∷ 0 ∷ 0 ∷ 7 ∷ 1 ∷ 0 ∷ 0 ∷ 0 ∷ 0 ∷ 0 ∷ 0 ∷ 0 ∷ []
    ++ (0x1E ∷ 0xE2 ∷ 1 ∷ 255 ∷ 0 ∷ 0 ∷ 0 ∷ 7 ∷ 1 ∷ 2 ∷ 0 ∷ 0 ∷ 1 ∷ 0 ∷ 0 ∷ 0 ∷ []
    ++ (0x1E ∷ 0xE2 ∷ 1 ∷ 255 ∷ 0 ∷ 0 ∷ 0 ∷ 7 ∷ 1 ∷ 2 ∷ 3 ∷ 0 ∷ 1 ∷ 2 ∷ 0 ∷ 0 ∷ []
    ++ (0x1E ∷ 0xE2 ∷ 1 ∷ 255 ∷ 0 ∷ 0 ∷ 0 ∷ 7 ∷ 1 ∷ 2 ∷ 3 ∷ 4 ∷ 1 ∷ 2 ∷ 3 ∷ 0 ∷ []))))
    )
    -- "tick count (4 bytes) [...] high byte first": 16,909,060 ticks
    ∷ at_tick 16909060
    ∷ "CW20600^" ⇒ "OK^"
    ∷ empties (0x1E ∷ 0xE2 ∷ 1 ∷ 255 ∷ 1 ∷ 2 ∷ 3 ∷ 4 ∷ 1 ∷ 2 ∷ 3 ∷ 0 ∷ 1 ∷ 2 ∷ 3 ∷ 4 ∷ [])
    ∷ []
    )
    -- "A change is a call after which the output word differs": no other leaves a record
    ∷ point (
    "CW20600^CW200S00000000000009^CW209200^CW210006^!#%CR206^" ⇒ "OK^OK^OK^OK^00^"
    ∷ "CW209005^CW210005^CW210001^CW210007^CW210008^" ⇒ "OK^OK^OK^OK^OK^"
    ∷ empties []
    ∷ holds log 0 (replicate 32 blank)
    ∷ []
    )
    -- "The value 4,294,967,295 means that many or more."; the word goes on, the tick of the first stays
    ∷ point (
    "CW20601^#CW20602^" ⇒ "OK^OK^"
    ∷ at_lost 4294967294
    ∷ "#CW20603^" ⇒ "OK^"
    ∷ holds log 16 (0x1E ∷ 0xE2 ∷ 2 ∷ 0 ∷ 0 ∷ 0 ∷ 0 ∷ 1 ∷ 255 ∷ 255 ∷ 255 ∷ 255 ∷ 0 ∷ 0 ∷ 0 ∷ 3 ∷ [])
    ∷ "#CW20604^" ⇒ "OK^"
    ∷ empties (change 255 0 1 0 ++ (0x1E ∷ 0xE2 ∷ 2 ∷ 0 ∷ 0 ∷ 0 ∷ 0 ∷ 1 ∷ 255 ∷ 255 ∷ 255 ∷ 255 ∷ 0 ∷ 0 ∷ 0 ∷ 4 ∷ []))
    ∷ "CW20605^CW20606^" ⇒ "OK^OK^"
    ∷ at_lost 4294967293
    ∷ "#CW20607^" ⇒ "OK^"
    ∷ empties (change 255 3 5 4 ++ (0x1E ∷ 0xE2 ∷ 2 ∷ 0 ∷ 0 ∷ 0 ∷ 0 ∷ 3 ∷ 255 ∷ 255 ∷ 255 ∷ 254 ∷ 0 ∷ 0 ∷ 0 ∷ 7 ∷ []))
    ∷ []
    )
    -- "A log that the caller altered is not repaired: each call still writes exactly the record that is due, and emptying copies what
    -- stands there." What is due goes by the outputs and by the state, and not by the area: the word before, and the first lost tick.
    ∷ with_room 48 (
    "CW20601^" ⇒ "OK^"
    ∷ alters log 0 (7 ∷ 7 ∷ 7 ∷ [])
    ∷ alters log 11 (8 ∷ [])
    ∷ "#CW20602^" ⇒ "OK^"
    ∷ alters log 31 (9 ∷ 9 ∷ [])
    ∷ "#CW20603^" ⇒ "OK^"
    ∷ alters log 39 (5 ∷ [])
    ∷ "#CW20604^" ⇒ "OK^"
    ∷ empties (
    7 ∷ 7 ∷ 7 ∷ 255 ∷ 0 ∷ 0 ∷ 0 ∷ 0 ∷ 0 ∷ 0 ∷ 0 ∷ 8 ∷ 0 ∷ 0 ∷ 0 ∷ 0
    ∷ 0x1E ∷ 0xE2 ∷ 1 ∷ 255 ∷ 0 ∷ 0 ∷ 0 ∷ 1 ∷ 0 ∷ 0 ∷ 0 ∷ 2 ∷ 0 ∷ 0 ∷ 0 ∷ 9 ∷ gap 2 2 4
    )
    ∷ []
    )
    ∷ []
