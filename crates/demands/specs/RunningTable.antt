-- 01, 'Special commands' and 'Running', and 02, items 2 to 4, computed: every command and button in every state, and every event with what it
-- leaves.
use Rattle.std.specs.Prelude.{List, [], ◌∷◌}
use Rattle.demands.specs.Exchanges.{Point, point, ◌⇒◌, ◌⇒◌runs◌, alters, program}
use Rattle.demands.specs.VariablesTable.{eight}

unfoldable pub commands : List Point
commands =
    -- Stop: 001, 003, 005, 006, 007, 008 are allowed; 002 and 004 are not, and change nothing. "E021 needs a pause, E022 nothing is
    -- running to pause".
    point (
    "CW000S00000000FF0100^CW005S00000000AA0100^CR212^" ⇒ "OK^OK^012^"
    ∷ "CW210002^CW210004^CR201^CR210^" ⇒ "E022^E021^00^000^"
    -- "001 when stopped [...] accepted and do nothing"
    ∷ "CW210001^CR201^CR210^CR212^CR206^" ⇒ "OK^00^001^000^00^"
    -- "003 start at 000", whatever the parameter; "001 raises no event"
    ∷ "CW209005^CW210003^CR201^CR210^CR211^CR206^" ⇒ "OK^OK^02^003^000^FF^"
    ∷ "CW210001^CR201^CR210^CR211^CR206^CR212^" ⇒ "OK^00^001^000^FF^000^"
    -- "005 start at parameter"
    ∷ "CW210005^CR201^CR210^CR211^CR206^" ⇒ "OK^02^005^005^AA^"
    ∷ "CW210001^CR201^CR211^CR206^" ⇒ "OK^00^005^AA^"
    -- "006 execute one line": outputs, and neither line nor event
    ∷ "CW209000^CW210006^CR201^CR210^CR211^CR206^CR212^" ⇒ "OK^OK^00^006^005^FF^000^"
    ∷ "CW210008^CR201^CR210^CR211^CR206^" ⇒ "OK^00^008^005^FF^"
    ∷ "CW000N1^CW210007^CR000^CR201^CR210^CR211^CR206^" ⇒ "OK^OK^S00000000FF0100^00^007^005^FF^"
    ∷ []
    )
    -- Pause: 001, 002 and 004. "E020 needs a stopped program".
    ∷ point (
    "CW000S00000000FF0100^CR212^CW210003^CW210002^CR201^CR210^" ⇒ "OK^012^OK^OK^03^002^"
    ∷ "CW210003^CW210005^CW210006^CW210007^CW210008^CR201^CR210^" ⇒ "E020^E020^E020^E020^E020^03^002^"
    -- "002 when paused [...] accepted and do nothing"
    ∷ "CW210002^CR201^CR210^CR211^CR206^" ⇒ "OK^03^002^000^FF^"
    ∷ "CW210004^CR201^CR210^" ⇒ "OK^02^004^"
    ∷ "CW210002^CW210001^CR201^CR210^CR211^CR206^CR212^" ⇒ "OK^OK^00^001^000^FF^000^"
    -- a stop ends the pause too
    ∷ "CW210003^CR201^" ⇒ "OK^02^"
    ∷ []
    )
    -- Auto: 001 and 002
    ∷ point (
    "CW000S00000000FF0100^CR212^CW210003^" ⇒ "OK^012^OK^"
    ∷ "CW210003^CW210004^CW210005^CW210006^CW210007^CW210008^CR201^CR210^" ⇒ "E020^E021^E020^E020^E020^E020^02^003^"
    ∷ "CW210002^CR201^CW210004^CR201^CW210001^CR201^CR212^" ⇒ "OK^03^OK^02^OK^00^000^"
    ∷ []
    )
    -- "Start/Stop starts at 000 when stopped, else stops"; "stopping by button raises 010". "Pause pauses, continues, or when stopped
    -- does nothing."
    ∷ point (
    "CW000F10003^CW001S00000000FF0100^CW002N1^CW209001^CR212^" ⇒ "OK^OK^OK^OK^012^"
    ∷ "%CR201^CR206^CR212^" ⇒ "00^00^000^"
    ∷ "!" ⇒ "" runs 1
    ∷ "CR201^CR206^CR211^CR213^CR210^" ⇒ "02^FF^001^0003^000^"
    ∷ "!CR201^CR206^CR211^CR213^CR212^CR201^" ⇒ "80^FF^001^0000^010^00^"
    ∷ "!%CR201^%CR201^%CR201^CR213^" ⇒ "03^02^03^0003^" runs 1
    ∷ "!CR201^CR206^CR211^CR213^CR212^" ⇒ "80^FF^001^0000^010^"
    ∷ "!CR201^CW210002^%CR201^%CW210004^CR201^CR210^" ⇒ "02^OK^02^OK^02^004^" runs 1
    ∷ "CR^" ⇒ "E001^"
    -- a press or a tick between two characters of a command
    ∷ "C%R#2%0#6^" ⇒ "FF^"
    ∷ []
    )
    -- "006 sets the outputs of a State line and ignores its time; For and Next do nothing", "nor does a line executed by 006" count as run
    ∷ point (
    "CW000S00000000110000^CW001S00000000229999^CW002F10005^CW003N1^CW199S00000000330001^CW200S00000000440001^CR212^"
    ⇒ "OK^OK^OK^OK^OK^OK^012^"
    ∷ "CW210006^CR206^CW209001^CW210006^CR206^CR201^" ⇒ "OK^11^OK^OK^22^00^"
    ∷ "CW209002^CW210006^CR206^CR213^CW209003^CW210006^CR206^CR201^CR212^" ⇒ "OK^OK^22^0000^OK^OK^22^00^000^"
    ∷ "CW209199^CW210006^CR206^CW209200^CW210006^CR206^CR211^" ⇒ "OK^OK^33^OK^OK^44^000^"
    ∷ "CW200N1^CW210006^CR206^CW200F10001^CW210006^CR206^CR201^CR212^" ⇒ "OK^OK^44^OK^OK^44^00^000^"
    ∷ "##########CR206^CR201^" ⇒ "44^00^"
    ∷ []
    )
    ∷ []

unfoldable pub running : List Point
running =
    -- "State, time T above 0: [...] the next line falls due on the T-th tick taken unpaused." "State, time 0: set outputs, stop, event
    -- 011."
    point (
    "CW000S00000001010001^CW001S00000010020003^CW002S00000100040000^CR212^" ⇒ "OK^OK^OK^012^"
    ∷ "!CR206^CR205^CR211^CR201^" ⇒ "01^01^000^02^"
    ∷ "#CR206^CR205^CR211^##CR206^CR211^" ⇒ "02^10^001^02^001^"
    ∷ "#CR206^CR205^CR204^CR211^CR201^CR212^" ⇒ "04^00^01^002^80^011^"
    -- stopped, ticks are taken and alter nothing
    ∷ "###CR206^CR211^CR201^CR212^" ⇒ "04^002^00^000^"
    ∷ []
    )
    -- "pausing neither gains nor loses a tick"
    ∷ point (
    "CW000S00000000010003^CW001S00000000020000^!#%####%#CR206^CR211^#CR206^CR211^CR212^" ⇒ "OK^OK^01^000^02^001^011^"
    ∷ "!##CW210002^###CW210004^CR206^#CR206^CR212^" ⇒ "OK^OK^01^02^011^"
    ∷ []
    )
    -- "For C: busy counter, event 006": also on its last round. "A For or Next that ends in 006, 007 or 008 counts as run". "An event
    -- stop keeps the outputs, frees the loops and overwrites any unread event."
    ∷ point (
    "CW000F10001^CW001S00000000550001^CW002F10003^CW003N1^" ⇒ "OK^OK^OK^OK^"
    ∷ "!" ⇒ "" runs 1
    ∷ "CR206^CR213^CR201^" ⇒ "55^0001^82^"
    ∷ "#" ⇒ "" runs 1
    ∷ "CR201^CR206^CR211^CR213^CR212^CR201^" ⇒ "80^55^002^0000^006^00^"
    ∷ "CW000F20002^CW001F20002^CW002N2^!" ⇒ "OK^OK^OK^" runs 2
    ∷ "CR211^CR214^CR206^CR212^" ⇒ "001^0000^55^006^"
    ∷ []
    )
    -- "else no Next C on any later line, 007"
    ∷ point (
    "CW20677^CW000N1^CW001F10002^CW002N2^CW003N3^CW004N4^CW209001^CW210005^" ⇒ "OK^OK^OK^OK^OK^OK^OK^OK^" runs 1
    ∷ "CR201^CR206^CR211^CR213^CR212^" ⇒ "80^77^001^0000^007^"
    ∷ "CW199F10002^CW209199^CW210005^" ⇒ "OK^OK^OK^" runs 1
    ∷ "CR211^CR206^CR212^" ⇒ "199^77^007^"
    -- one on line 199 is later, and one on the next line
    ∷ "CW199N1^CW002S00000000010001^CW210001^CW209001^CW210005^" ⇒ "OK^OK^OK^OK^OK^" runs 1
    ∷ "CR213^CR211^CW210001^" ⇒ "0002^002^OK^"
    -- "Going on past 199: event 009, line stays 199."
    ∷ "CW198F10002^CW209198^CW210005^" ⇒ "OK^OK^OK^" runs 3
    ∷ "CR201^CR206^CR211^CR213^CR212^" ⇒ "80^01^199^0000^009^"
    ∷ "CW199S00000000090002^CW209199^CW210005^#CR201^CR206^#CR201^CR206^CR211^CR212^" ⇒ "OK^OK^OK^02^09^80^09^199^009^"
    ∷ []
    )
    -- "Next C: counter not busy, 008, even if a For stands above (a start inside a loop)."
    ∷ point (
    "CW000F10003^CW001S00000000050001^CW002N1^CW209001^CW210005^" ⇒ "OK^OK^OK^OK^OK^"
    ∷ "#" ⇒ "" runs 1
    ∷ "CR201^CR206^CR211^CR212^" ⇒ "80^05^002^008^"
    ∷ "CW001N2^CW003N2^!" ⇒ "OK^OK^" runs 2
    ∷ "CR211^CR213^CR206^CR212^" ⇒ "001^0000^05^008^"
    ∷ []
    )
    -- "Else take one off; above zero, go to the line after its For; at zero, free it and go on." One loop in another, and one of one
    -- round.
    ∷ point (
    "CW000F10002^CW001S00000000010001^CW002F20002^CW003S00000000020001^CW004N2^CW005N1^CW006F30001^CW007S00000000030001^CW008N3^"
    ⇒ "OK^OK^OK^OK^OK^OK^OK^OK^OK^"
    ∷ "CW009F10001^CW010N1^CW011S00000000040000^" ⇒ "OK^OK^OK^"
    ∷ "!CR211^CR213^CR214^" ⇒ "001^0002^0000^" runs 1
    ∷ "#CR211^CR213^CR214^" ⇒ "003^0002^0002^" runs 1
    ∷ "#CR211^CR213^CR214^" ⇒ "003^0002^0001^" runs 1
    ∷ "#CR211^CR213^CR214^CR206^" ⇒ "001^0001^0000^01^" runs 2
    ∷ "##" ⇒ "" runs 2
    ∷ "#CR211^CR213^CR214^CR215^CR206^" ⇒ "007^0000^0000^0001^03^" runs 3
    ∷ "#CR211^CR213^CR215^CR206^CR212^" ⇒ "011^0000^0000^04^011^" runs 3
    ∷ []
    )
    -- 02, item 2: "For with count 0000 passes to the line after the first later Next of that counter and takes no counter". In a loop;
    -- the line reads back as it was written.
    ∷ point (
    "CW000F10002^CW001F20000^CW002S00000000010001^CW003N2^CW004S00000000020001^CW005N1^CW006S00000000030000^CR212^CR001^"
    ⇒ "OK^OK^OK^OK^OK^OK^OK^012^F20000^"
    ∷ "!CR211^CR206^CR213^CR214^" ⇒ "004^02^0002^0000^" runs 2
    ∷ "#CR211^CR206^CR213^CR214^" ⇒ "004^02^0001^0000^" runs 2
    ∷ "#CR211^CR206^CR213^CR212^" ⇒ "006^03^0000^011^" runs 1
    -- a start inside what it passes over
    ∷ "CW209002^CW210005^#" ⇒ "OK^OK^" runs 1
    ∷ "CR211^CR206^CR212^" ⇒ "003^01^008^"
    -- "006 and 007 are still checked first": a busy counter; no later Next; both
    ∷ "CW001F10000^CW003N1^!" ⇒ "OK^OK^" runs 2
    ∷ "CR211^CR213^CR206^CR212^" ⇒ "001^0000^01^006^"
    ∷ "CW001F30000^!" ⇒ "OK^" runs 2
    ∷ "CR211^CR215^CR212^" ⇒ "001^0000^007^"
    ∷ "CW001F20000^CW002N1^CW003N2^CW004F10000^CW005S00000000040000^!" ⇒ "OK^OK^OK^OK^OK^" runs 3
    ∷ "CR211^CR212^" ⇒ "004^006^"
    -- "If that Next is line 199, event 009 there." A Next before it is the first later one.
    ∷ "CW010F40000^CW199N4^CW209010^CW210005^" ⇒ "OK^OK^OK^OK^" runs 1
    ∷ "CR201^CR206^CR211^CR216^CR212^" ⇒ "80^01^199^0000^009^"
    ∷ "CW012N4^CW013S00000000050000^CW210005^" ⇒ "OK^OK^OK^" runs 1
    ∷ "CR206^CR211^CR212^" ⇒ "05^013^011^"
    -- "The For still counts as run": 1 + 3 * 133 = 400 lines, and with one round more it is the 401st
    ∷ "CW000F10133^CW001F20000^CW002N2^CW003F30000^CW004N3^CW005N1^CW006S00000000070000^!" ⇒ "OK^OK^OK^OK^OK^OK^OK^" runs 400
    ∷ "CR206^CR211^CR212^" ⇒ "07^006^011^"
    ∷ "CW000F10134^!" ⇒ "OK^" runs 400
    ∷ "CR211^CR213^CR212^" ⇒ "001^0000^013^"
    ∷ []
    )
    -- "One call runs at most 400 For and Next lines. Were a 401st due, the program stops there with event 013"; "the one stopped by 013
    -- does not" count. Here in a tick, and with more lines in the tick before.
    ∷ point (
    "CW000F20002^CW001N2^CW002S00000000010001^CW003F10002^CW004N1^CW005F10001^CW006S00000000020001^CW007F30400^CW008N3^"
    ⇒ "OK^OK^OK^OK^OK^OK^OK^OK^OK^"
    ∷ "CW009N1^" ⇒ "OK^"
    ∷ "!CR211^CR206^" ⇒ "002^01^" runs 3
    ∷ "#CR211^CR206^CR201^" ⇒ "006^02^82^" runs 4
    ∷ "#CR211^CR206^CR215^CR201^CR212^" ⇒ "008^02^0000^80^013^" runs 400
    ∷ []
    )
    -- 02, item 4: "Running a Bad line stops with event 014 at that line." In a loop, whose counter is freed; it is not counted, and the
    -- outputs stay.
    ∷ point (
    "CW000F10003^CW001S00000000050001^CW003N1^CR212^" ⇒ "OK^OK^OK^012^"
    ∷ alters program 16 (eight 0x53 0 0 0 0 9 0xFF 0)
    ∷ "!" ⇒ "" runs 1
    ∷ "CR213^CR206^" ⇒ "0003^05^"
    ∷ "#CR201^CR206^CR211^CR213^CR212^" ⇒ "80^05^002^0000^014^"
    -- "The search for a Next passes over it", to take the counter and to pass on; a damaged Next is none, 007
    ∷ "CW000F10000^!CR206^CR211^CR212^" ⇒ "OK^00^004^011^" runs 1
    ∷ alters program 24 (eight 0x4E 1 0 0 0 0 0 1)
    ∷ "!CR211^CR212^" ⇒ "000^007^" runs 1
    -- after exactly 400 lines it is no 401st
    ∷ "CW000F10399^CW001N1^CW20655^!" ⇒ "OK^OK^OK^" runs 400
    ∷ "CR206^CR211^CR212^" ⇒ "55^002^014^"
    -- on line 199
    ∷ "CW198S00000000060001^CW209198^" ⇒ "OK^OK^"
    ∷ alters program 1592 (eight 0 0 0 0 0 0 0 0)
    ∷ "CW210005^#CR206^CR211^CR212^" ⇒ "OK^06^199^014^"
    ∷ []
    )
    ∷ []
