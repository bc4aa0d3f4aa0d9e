-- 01, 'The wire', and 02, items 4 and 7, computed: characters, the seven checks with their numbers and their order, E024 behind them, and
-- the addresses I and D, from power-on on.
use Rattle.std.specs.Prelude.{List, [], ◌∷◌, ◌++◌}
use Rattle.demands.specs.Exchanges.{Step, Point, point, ◌⇒◌, try, alters, program}
use Rattle.controller.specs.Refusals.{power_on}
use Rattle.demands.specs.CallsTable.{lent}
use Rattle.demands.specs.VariablesTable.{eight}

-- the caller puts lines at 000 to 002 that no other address holds, and a Bad one at 003
abbrev each_its_own : Step
each_its_own = alters program 0 (eight 0x4E 1 0 0 0 0 0 0 ++ (eight 0x4E 2 0 0 0 0 0 0 ++ (eight 0x4E 3 0 0 0 0 0 0 ++ eight 0x53 1 0 0 0 0 0 1)))

unfoldable pub wire : List Point
wire =
    -- "Byte 13 ends a command. Byte 32 is dropped. a-z count as A-Z."
    point (
    "cr206^" ⇒ "00^"
    ∷ " C R 2 0 6 ^" ⇒ "00^"
    ∷ "cw206af^Cr206^" ⇒ "OK^AF^"
    ∷ "cw 000 s 00 000000fe 0010^cr000^" ⇒ "OK^S00000000FE0010^"
    ∷ "cwin4^cr001^cwdf30002^cr000^" ⇒ "OK^N4^OK^F30002^"
    -- "All other bytes, 10 included, are characters."
    ∷ "~^~~^~~~^" ⇒ "E001^E001^E002^"
    ∷ "CR206~^CR20~^~CR206^C~206^" ⇒ "E002^E004^E002^E002^"
    ∷ []
    )
    -- "At most 32 characters are kept; a 33rd makes the command overlong until its 13." Read address 217 with 27 characters left over
    -- is E004 by check 3; with 28 it is overlong, which check 2 says before. A space is no character.
    ∷ point (
    "CR217YYYYYYYYYYYYYYYYYYYYYYYYYYY^" ⇒ "E004^"
    ∷ "CR217YYYYYYYYYYYYYYYYYYYYYYYYYYY  ^" ⇒ "E004^"
    ∷ "CR217YYYYYYYYYYYYYYYYYYYYYYYYYYYY^" ⇒ "E002^"
    ∷ "CR217YYYYYYYYYYYYYYYYYYYYYYYYYYYYYYYYYYYYYYYY^" ⇒ "E002^"
    -- "Each 13 gets one reply, then collection starts empty."
    ∷ "CR206^" ⇒ "00^"
    ∷ "CW000XYYYYYYYYYYYYYYYYYYYYYYYYYY^" ⇒ "E003^"
    ∷ "CW000XYYYYYYYYYYYYYYYYYYYYYYYYYYY^" ⇒ "E002^"
    ∷ "^CR206^" ⇒ "E001^00^"
    ∷ []
    )
    -- "1. Fewer than three characters (four bytes with the 13): E001." It comes before check 2.
    ∷ point (
    "^C^CR^XX^ X X ^" ⇒ "E001^E001^E001^E001^E001^"
    -- "2. [...] first not C, second not R or W, or third not I or D and fewer than five characters: E002."
    ∷ "XXX^BR206^DR206^" ⇒ "E002^E002^E002^"
    ∷ "CQ206^CS206^CV206^CX206^CC206^CRR206^" ⇒ "E002^E002^E002^E002^E002^E004^"
    ∷ "CR2^CR20^CR200^" ⇒ "E002^E002^S00000000000000^"
    ∷ "CW2^CW20^CRX^CRXX^CRH^CRJ^CRC^CRE^" ⇒ "E002^E002^E002^E002^E002^E002^E002^E002^"
    -- before check 3: an address that is none; and before check 6
    ∷ "XR217^CX217^CR21^CR9^XRD^XW206GG^CX209256^" ⇒ "E002^E002^E002^E002^E002^E002^E002^"
    ∷ []
    )
    -- "3. Address: three digits [...] Non-digits, a value outside 000-216 [...]: E004"
    ∷ point (
    "CR000^CR199^CR200^CR201^CR216^" ⇒ "S00000000000000^S00000000000000^S00000000000000^80^0000^"
    ∷ "CR217^CR220^CR300^CR999^" ⇒ "E004^E004^E004^E004^"
    ∷ "CRA00^CR0A0^CR00A^CR/00^CR0:0^CR00/^CR00:^CR-01^" ⇒ "E004^E004^E004^E004^E004^E004^E004^E004^"
    -- "or a write to 201, 202, 207, 208 or 211-216: E004"
    ∷ "CW20100^CW20200^CW20700^CW208000^" ⇒ "E004^E004^E004^E004^"
    ∷ "CW211000^CW212000^CW2130000^CW2140000^CW2150000^CW2160000^" ⇒ "E004^E004^E004^E004^E004^E004^"
    ∷ "CW217^CW999^CWXXX^" ⇒ "E004^E004^E004^"
    -- before checks 5 and 6: nothing but the address, too much after it, or what is in no format
    ∷ "CW201^CW208^CW216^CR217X^CRX000^CW201XX^CW208256^" ⇒ "E004^E004^E004^E004^E004^E004^E004^"
    -- the others are taken
    ∷ "CW000N1^CW199N2^CW200N3^CW20301^CW20402^CW20503^CW20604^CW209005^CW210001^" ⇒ "OK^OK^OK^OK^OK^OK^OK^OK^OK^"
    ∷ []
    )
    -- "I (this direction's last address plus one) or D (minus one)"; "Read and write keep separate last addresses"; "They move only on a
    -- command answered without an error."
    ∷ point (
    "CW000N1^CW001N2^CW002N3^CW003N4^" ⇒ "OK^OK^OK^OK^"
    ∷ "CRI^CRI^CRI^CRI^CRD^CRD^CRD^CRD^CRI^" ⇒ "N1^N2^N3^N4^N3^N2^N1^E004^N2^"
    ∷ "CWIN2^CR004^CWDF10003^CR003^" ⇒ "OK^N2^OK^F10003^"
    -- errors of every check, and then the address after the last one
    ∷ "CR001^CR^XR100^CR217^CR1000^CRI^" ⇒ "N2^E001^E002^E004^E002^N3^"
    ∷ "CW001N2^CW^CW201^CW100^CW100X^CW210009^CWIN4^CR002^" ⇒ "OK^E001^E004^E002^E003^E003^OK^N4^"
    -- "000-216": at both ends, and the last address stays where it was
    ∷ "CR216^CRI^CRI^CRD^CRI^CRI^" ⇒ "0000^E004^E004^0000^0000^E004^"
    ∷ "CR000^CRD^CRI^" ⇒ "N1^E004^N2^"
    ∷ "CW000N2^CWDN1^CWIN3^CR001^" ⇒ "OK^E004^OK^N3^"
    -- by I and D too a write is for what may be written: 210 and on to 211, back to 209 and 208
    ∷ "CW210001^CWI000^CWD009^CWD000^CR209^" ⇒ "OK^E004^OK^E004^009^"
    ∷ "CW200N1^CWI00^CW206FF^CWI00^CR206^" ⇒ "OK^E004^OK^E004^FF^"
    -- what stands after I or D is data, or left over
    ∷ "CR005^CRI0^CRD0^CRI00^CWI^CWD^" ⇒ "S00000000000000^E002^E002^E002^E004^E002^"
    ∷ []
    )
    -- 02, item 7: "At power-on the last address of both directions becomes "before 000": I then means 000, D is E004." So of reads,
    ∷ point (each_its_own ∷ "CRI^CRD^CRI^CRI^CRD^CRD^CRD^" ⇒ "N1^E004^N2^N3^N2^N1^E004^" ∷ [])
    ∷ point (each_its_own ∷ "CRD^CRD^CRI^CRD^CRI^" ⇒ "E004^E004^N1^E004^N2^" ∷ [])
    -- and of writes,
    ∷ point (each_its_own ∷ "CWIN4^CWIN3^CWDN2^CWDN1^CR000^CR001^CR002^" ⇒ "OK^OK^OK^E004^N2^N3^N3^" ∷ [])
    ∷ point (each_its_own ∷ "CWDN4^CWDN4^CWIN2^CWDN4^CR000^CR001^" ⇒ "E004^E004^OK^E004^N2^N2^" ∷ [])
    -- whatever the other direction did,
    ∷ point (each_its_own ∷ "CR002^CRD^CWDN4^CWIN4^CR000^CR001^" ⇒ "N3^N2^E004^OK^N4^N2^" ∷ [])
    ∷ point (each_its_own ∷ "CW002N4^CWDN4^CRD^CRI^CRI^CRI^" ⇒ "OK^OK^E004^N1^N4^N4^" ∷ [])
    -- and after errors of every check, of a Bad line too: all that can come before a first accepted write (209 then is 0, in reach)
    ∷ point (
    each_its_own
    ∷ "CR^XR001^XRD^CR217^CR0011^CRI0^CRD0^CR003^" ⇒ "E001^E002^E002^E004^E002^E002^E004^E024^"
    ∷ "CRDYYYYYYYYYYYYYYYYYYYYYYYYYYYYY^CRDYYYYYYYYYYYYYYYYYYYYYYYYYYYYYY^CRI^" ⇒ "E004^E002^N1^"
    ∷ "CW^XW001N4^XWDN4^CW201^CW001^CW001X^CWI^CWIX^CWD^" ⇒ "E001^E002^E002^E004^E002^E003^E002^E003^E004^"
    ∷ "CWDYYYYYYYYYYYYYYYYYYYYYYYYYYYYY^CWDYYYYYYYYYYYYYYYYYYYYYYYYYYYYYY^" ⇒ "E004^E002^"
    ∷ "CW210009^CW210004^CW210002^CWIN4^CR000^CR001^" ⇒ "E003^E021^E022^OK^N4^N2^"
    ∷ []
    )
    ∷ point (alters program 0 (eight 0x53 1 0 0 0 0 0 1) ∷ "CRI^CRI^CRD^CWIN1^CRI^CRD^" ⇒ "E024^E024^E004^OK^N1^E004^" ∷ [])
    ∷ point (alters program 0 (eight 0x53 0 0 0 0 1 0 9) ∷ "!CWIN4^CWDN4^CW210003^!CWIN4^CR000^CR001^" ⇒ "E005^E004^E020^OK^N4^S00000000000000^" ∷ [])
    -- and so at every power-on: while a program runs, in the middle of a command, after one that was refused
    ∷ point (
    "CR100^CW000S00000000000009^!CR1" ⇒ "S00000000000000^OK^"
    ∷ try power_on (lent 1600 1600 32 0) 0
    ∷ "^CRD^CWDN1^CWIN1^CRI^CRD^CWIN2^CRI^" ⇒ "E001^E004^E004^OK^N1^E004^OK^N2^"
    ∷ try power_on (lent 1600 1600 31 0) 31
    ∷ try power_on (lent 1600 1600 32 0) 0
    ∷ "CRD^CWDN1^CWIN3^CRI^CRD^" ⇒ "E004^E004^OK^N3^E004^"
    ∷ []
    )
    -- "4. Write while running or paused to anything but 209 and 210: E005." After check 3, before checks 5 and 6.
    ∷ point (
    "CW000S00000000FF0100^CW210003^CR201^" ⇒ "OK^OK^82^"
    ∷ "CW000N1^CW199N1^CW200N1^CW20300^CW20400^CW20500^CW20600^" ⇒ "E005^E005^E005^E005^E005^E005^E005^"
    ∷ "CW000^CW000X^CW206^CW206XX^CW201^CW217^CW211000^" ⇒ "E005^E005^E005^E005^E004^E004^E004^"
    -- after checks 1 and 2
    ∷ "CW^XW000N1^CX206^" ⇒ "E001^E002^E002^"
    ∷ "CW209007^CW209^CW209256^CW210^CW210009^CR209^" ⇒ "OK^E002^E003^E002^E003^007^"
    ∷ "CW210002^CR201^" ⇒ "OK^83^"
    ∷ "CW000N1^CW199N1^CW200N1^CW20300^CW20400^CW20500^CW20600^" ⇒ "E005^E005^E005^E005^E005^E005^E005^"
    ∷ "CW000^CW000X^CW206^CW206XX^CW201^CW217^CW211000^" ⇒ "E005^E005^E005^E005^E004^E004^E004^"
    ∷ "CW209008^CW209^CW209256^CW210^CW210009^CR209^" ⇒ "OK^E002^E003^E002^E003^008^"
    ∷ "CR000^CR206^CW210001^CW20600^CW000N1^" ⇒ "S00000000FF0100^FF^OK^OK^OK^"
    ∷ []
    )
    -- "5. Characters left over or missing: E002."
    ∷ point (
    "CR2060^CR206X^CR000S^" ⇒ "E002^E002^E002^"
    ∷ "CW206^CW2060^CW206000^CW203^CW203000^" ⇒ "E002^E002^E002^E002^E002^"
    ∷ "CW209^CW20900^CW2090000^CW210^CW21000^CW2100010^" ⇒ "E002^E002^E002^E002^E002^E002^"
    -- "For a line (000-200) the first data letter sets the length: S 15, F 6, N 2 characters."
    ∷ "CW000S0000000000000^CW000S000000000000000^CW000S00000000000000^" ⇒ "E002^E002^OK^"
    ∷ "CW000F1000^CW000F100000^CW000F10000^" ⇒ "E002^E002^OK^"
    ∷ "CW000N^CW000N10^CW000N1^" ⇒ "E002^E002^OK^"
    -- "No data is E002; any other first character is E003."
    ∷ "CW000^CW200^CW000X^CW000XX^CW000R1^CW000T00000000000000^CW000E10000^CW000G10000^CW000M1^CW000O1^"
    ⇒ "E002^E002^E003^E003^E003^E003^E003^E003^E003^E003^"
    -- before check 6
    ∷ "CW206G^CW2060G0^CW209ABCD^CW2099999^CW210X^CW000N55^CW000F5000^CW000S1^" ⇒ "E002^E002^E002^E002^E002^E002^E002^E002^"
    ∷ []
    )
    -- "6. Data not in its format, d above 255, reserved digits not 00, or loop counter not 1-4: E003." Formats: "h is two hex digits,
    -- d three decimal digits to 255, 2d four decimal digits to 9999."
    ∷ point (
    "CW20600^CW20609^CW2069A^CW206AF^CW206F0^CR206^CW206FF^CR206^" ⇒ "OK^OK^OK^OK^OK^F0^OK^FF^"
    ∷ "CW2060/^CW206:0^CW2060@^CW206G0^CW2060G^CW206/0^CR206^" ⇒ "E003^E003^E003^E003^E003^E003^FF^"
    ∷ "CW209000^CR209^CW209099^CR209^CW209255^CR209^" ⇒ "OK^000^OK^099^OK^255^"
    ∷ "CW209256^CW209999^CW20925A^CW209A00^CW2090/0^CW2090:0^CR209^" ⇒ "E003^E003^E003^E003^E003^E003^255^"
    ∷ "CW000S01000000000000^CW000S10000000000000^CW000S0A000000000000^CW000SX0000000000000^" ⇒ "E003^E003^E003^E003^"
    ∷ "CW000S00G00000000000^CW000S000000000G0000^CW000S00000000000A00^CW000S0000000000000:^" ⇒ "E003^E003^E003^E003^"
    ∷ "CW000F00001^CW000F50001^CW000FA0001^CW000F1000A^CW000F1A000^" ⇒ "E003^E003^E003^E003^E003^"
    ∷ "CW000N0^CW000N5^CW000N9^CW000NA^CW200N5^" ⇒ "E003^E003^E003^E003^E003^"
    -- an error stores nothing
    ∷ "CR000^CR200^" ⇒ "S00000000000000^S00000000000000^"
    ∷ "CW000N1^CR000^CW000N4^CR000^CW000F10000^CR000^CW000F49999^CR000^" ⇒ "OK^N1^OK^N4^OK^F10000^OK^F49999^"
    ∷ "CW199S00FEDCBA989999^CR199^CW200S00012345670001^CR200^CR199^" ⇒ "OK^S00FEDCBA989999^OK^S00012345670001^S00FEDCBA989999^"
    ∷ []
    )
    -- "7. Address 210 only: code not 001-008, E003; code forbidden in the present state, E005; parameter out of reach, E004." 02,
    -- item 3: E020, E021, E022 and E023 there; "same places in the order". Each before the next; and checks 5 and 6 before it.
    ∷ point (
    "CW210000^CW210009^CW210255^CW210256^CW210ABC^CR210^" ⇒ "E003^E003^E003^E003^E003^000^"
    ∷ "CW21009^CW2100090^CW209255^CW2100050^CW210005^" ⇒ "E002^E002^OK^E002^E023^"
    ∷ "CW209201^CW210006^CW209255^CW210006^CW210005^CR210^" ⇒ "OK^E023^OK^E023^E023^000^"
    ∷ "CW209200^CW210005^CW210006^CR210^CW209199^CW210005^CR210^CR211^" ⇒ "OK^E023^OK^006^OK^OK^005^199^"
    ∷ "CW210002^CW210004^CR210^" ⇒ "E022^E021^005^"
    ∷ "CW000S00000000010100^CW210003^CW209255^CW210005^CW210006^CW210ABC^CW210000^" ⇒ "OK^OK^OK^E020^E020^E003^E003^"
    ∷ "CW210002^CW210005^CW210006^CW210009^" ⇒ "OK^E020^E020^E003^"
    -- 210 named by I, and what else answers E005 and E004: a line that is locked, and 211, which I names next
    ∷ "CW209255^CWI005^CW000N1^CWI004^CWI008^CWD200^CWI008^CR210^" ⇒ "OK^E020^E005^OK^E004^OK^E020^004^"
    ∷ []
    )
    -- 02, item 4: "reading a Bad line over the wire answers E024, after the length check, and does not move the address", by digits, by I and
    -- by D; nor does it move the other direction's. Here 005 is Bad.
    ∷ point (
    alters program 40 (eight 0x53 1 0 0 0 0 0 1)
    ∷ "CR005^CR004^CRI^CRI^CRD^" ⇒ "E024^S00000000000000^E024^E024^S00000000000000^"
    ∷ "CR005X^CR0050^CR00^CR05X^CR217^" ⇒ "E002^E002^E002^E004^E004^"
    ∷ "CR006^CRDX^CRD^CRD^CRI^" ⇒ "S00000000000000^E002^E024^E024^S00000000000000^"
    ∷ "CW004N2^CR005^CWIN1^CR005^CRD^" ⇒ "OK^E024^OK^N1^N2^"
    ∷ []
    )
    ∷ []
